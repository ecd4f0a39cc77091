-- `new_otc_size` meets its contract: seven bytes, or none.
use mathlib.Core.Path.{refl}
use native.Mathlib.Omega.{arith}
use Rattle.rules.specs.Bytes.{bytes4}
use Rattle.rewriting.proofs.Pieces.{new_otc-none, new_otc-is}
use Rattle.rewriting.proofs.planner.new_otc_size.Goals as goal

pub returns-in-Some : goal.returns-in-Some
unfolding bytes4
returns-in-Some c = (λ f. rw (new_otc-is f c.in-Some.is) refl, omega arith)

pub returns-in-None : goal.returns-in-None
returns-in-None c = (λ f. rw (new_otc-none f c.in-None.is) refl, omega arith)
