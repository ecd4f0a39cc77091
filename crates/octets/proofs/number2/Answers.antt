-- `number2` meets its contract: what two bytes spell.
use native.Mathlib.Omega.{arith}
use Rattle.octets.proofs.Numbers.{big_endian_2}
use Rattle.octets.proofs.number2.Goals as goal

pub returns : goal.returns
returns c = (omega (arith, big_endian_2 c.args.high c.args.low), omega arith)
