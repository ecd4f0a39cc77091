-- `record_size` meets its contract.
use native.Mathlib.Omega.{arith}
use Rattle.rules.specs.Origin.{vrp_size}
use Rattle.vrps.proofs.family.Family.record_size.Goals as goal

pub returns : goal.returns
unfolding vrp_size
returns c = (omega arith, omega arith, omega arith)
