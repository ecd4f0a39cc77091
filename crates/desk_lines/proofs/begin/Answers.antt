-- `begin` meets its contract.
use mathlib.Core.Path.{refl}
use Rattle.desk_lines.specs.Machine.{begun}
use Rattle.desk_lines.proofs.begin.Goals as goal

pub returns : goal.returns
unfolding begun
returns c = refl
