-- `bit` meets its contract: the bit stands in one of the octets.
use mathlib.Core.Path.{◌≡◌, ap, ◌∙◌}
use Prim.Native.Nat.{suc, ◌+◌, ◌-◌, ◌*◌, ◌/◌, ◌%◌, ◌^◌}
use native.Mathlib.Omega.{arith}
use Rattle.rules.specs.Origin.{spelled, bit_at}
use Rattle.vrps.proofs.Words.{octet_bit}
use Rattle.vrps.proofs.prefixes.bit.Goals as goal

pub returns : goal.returns
unfolding bit_at
returns c = let a = c.args in
    let e : 120 - 8 * (a.i / 8) + (7 - a.i % 8) ≡ 128 - suc a.i = omega arith in (
      ap (λ n. n / 2 ^ (7 - a.i % 8) % 2) c.octet.ensures
          ∙ octet_bit (spelled a.prefix) (120 - 8 * (a.i / 8)) (7 - a.i % 8) (omega arith)
          ∙ ap (λ n. spelled a.prefix / 2 ^ n % 2) e,
      omega arith,
    )
