-- A byte widened is the same number, below 256.
use native.Mathlib.Omega.{arith}
use Rattle.octets.proofs.wide.Goals as goal

pub returns : goal.returns
returns c = (c.from.ensures, omega (arith, c.from.ensures))
