-- `bytes_of` meets its contract: the library's four bytes are the definition's, since a number below 2 ^ 32 has no higher one.
use Prim.Native.Nat.{◌/◌, ◌%◌}
use mathlib.Core.Path.{◌≡◌, refl, ◌∙◌}
use native.Mathlib.Omega.{arith}
use Rattle.rules.specs.Bytes.{bytes4}
use Rattle.octets.proofs.buffer.bytes_of.Goals as goal

pub returns : goal.returns
unfolding bytes4
returns c = let n = c.args.n in
    let first : n / 16777216 % 256 ≡ n / 16777216 = omega (arith, c.ranges.n.fits) in
    c.to_be_bytes.ensures ∙ rw first refl
