-- `put_number4` meets its contract: the array that it stores is the number's bytes.
use mathlib.Core.Path.{ap}
use native.Mathlib.Omega.{arith}
use lib.ListN.{length}
use Rattle.rules.specs.Bytes.{bytes4}
use Rattle.octets.proofs.buffer.put_number4.Goals as goal

pub put-requires : goal.put-requires
unfolding bytes4
put-requires c = omega (arith, ap length c.bytes_of-bytes.ensures, c.requires)

pub returns : goal.returns
returns c = rw (← c.bytes_of-bytes.ensures) c.put.ensures
