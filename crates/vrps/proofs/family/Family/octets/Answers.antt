-- `octets` meets its contract: a width is one of whole words.
use native.Mathlib.Omega.{arith}
use Rattle.vrps.proofs.Words.{whole_bits}
use Rattle.vrps.proofs.family.Family.octets.Goals as goal

pub returns : goal.returns
returns c = let w = whole_bits c.args.self in
    (omega arith, omega (arith, w.even), omega (arith, w.least), omega arith)
