-- `tag_size` meets its contract, by the state.
use mathlib.Core.Path.{ap}
use native.Mathlib.Omega.{arith}
use lib.ListN.{length}
use Rattle.communities.proofs.Told.{tag-told, tag_untold}
use Rattle.communities.proofs.tags.tag_size.Goals as goal

pub returns-then-state-gt-INVALID : goal.returns-then-state-gt-INVALID
returns-then-state-gt-INVALID c = omega (arith, ap length (tag_untold c.args.state c.if-state-gt-INVALID.true))

pub returns : goal.returns
returns c = omega (arith, ap length (tag-told c.args.state (omega arith)))
