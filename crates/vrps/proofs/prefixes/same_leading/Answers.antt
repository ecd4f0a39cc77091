-- `same_leading` meets its contract: the law over the width, at 32.
use Prim.Native.Nat.{ℕ, ◌-◌, ◌*◌, ◌/◌, ◌%◌, ◌^◌, ◌≤◌, ◌<◌}
use mathlib.Core.Path.{◌≡◌, sym, ◌∙◌}
use native.Mathlib.Nat.{one-mul}
use native.Mathlib.Omega.{arith}
use lib.Dec.{eqb}
use lib.Pow.{pow_pos, shl_exact}
use Rattle.rules.specs.Origin.{ipv4, agree}
use Rattle.rules.proofs.Prefixes.{agree_quotients}
use Rattle.vrps.proofs.prefixes.same_leading.Goals as goal

-- The power of two as the code has it, in 64 bits: nothing is lost of it, and it is not 0.
abbrev power : ℕ → ℕ
power n = 1 * 2 ^ (ipv4 - n) % 2 ^ 64

power-whole : (n : ℕ) → power n ≡ 2 ^ (ipv4 - n)
power-whole n = shl_exact 1 (ipv4 - n) 64 (omega arith) (omega arith) ∙ one-mul _

power-positive : (n : ℕ) → 0 < power n
power-positive n = rw (power-whole n) (pow_pos _)

quotients : (a b n : ℕ) → a < 2 ^ ipv4 → b < 2 ^ ipv4 → n ≤ ipv4 → eqb (a / power n) (b / power n) ≡ agree ipv4 n a b
quotients a b n p q h = rw (power-whole n) (sym (agree_quotients ipv4 a b p q n h))

pub returns : goal.returns
returns c = quotients c.args.a c.args.b c.args.n (omega arith) (omega arith) c.requires

pub nonzero_div-result : goal.nonzero_div-result
nonzero_div-result c = power-positive c.args.n

pub nonzero_div-result-2 : goal.nonzero_div-result-2
nonzero_div-result-2 c = power-positive c.args.n
