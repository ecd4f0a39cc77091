-- `origin` meets its contract: the first byte, or 0 where there is none.
use lib.ListN.{get_or-eq_default}
use native.Mathlib.Omega.{arith}
use mathlib.Core.Path.{sym}
use Rattle.attributes.proofs.origin.Goals as goal

pub returns-then-value-eq0 : goal.returns-then-value-eq0
returns-then-value-eq0 c = sym (get_or-eq_default c.args.value.now 0 (omega arith))
