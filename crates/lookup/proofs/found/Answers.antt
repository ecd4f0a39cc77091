-- `found` meets its contract.
use mathlib.Core.Path.{refl}
use Rattle.lookup.proofs.found.Goals as goal

pub returns : goal.returns
returns c = (refl, refl)
