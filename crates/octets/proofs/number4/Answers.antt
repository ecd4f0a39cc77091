-- `number4` meets its contract: what four bytes spell.
use native.Mathlib.Omega.{arith}
use Rattle.octets.proofs.Numbers.{big_endian_4}
use Rattle.octets.proofs.number4.Goals as goal

pub returns : goal.returns
returns c = omega (arith, big_endian_4 c.args.s.now c.requires)
