-- `words4` meets its contract.
use native.Mathlib.Omega.{arith}
use Rattle.vrps.proofs.Words.{prefix-first}
use Rattle.vrps.proofs.prefixes.words4.Goals as goal

pub returns : goal.returns
returns c = prefix-first _ (omega arith, omega arith, omega arith, omega arith)
