-- `put_tag` meets its contract, by the state.
use Rattle.octets.proofs.Writing.{stored-none}
use native.Mathlib.Omega.{arith}
use Rattle.communities.proofs.Told.{tag-told, tag_untold}
use Rattle.communities.proofs.tags.put_tag.Goals as goal

pub put-requires : goal.put-requires
put-requires c = rw (tag-told c.args.state (omega arith)) at c.requires

pub returns-then-state-le-INVALID : goal.returns-then-state-le-INVALID
returns-then-state-le-INVALID c = rw (tag-told c.args.state (omega arith)) c.put.ensures

pub returns : goal.returns
returns c = stored-none _ _ (tag_untold c.args.state (omega arith))
