-- `index_of` meets its contract.
use mathlib.Core.Path.{refl}
use native.Mathlib.Omega.{arith}
use Rattle.vrp_tree.proofs.index_of.Goals as goal

pub returns : goal.returns
returns c = (refl, omega arith)
