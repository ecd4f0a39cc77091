-- The widths that prefixes have here, and the words of a prefix.
use Rattle.std.specs.Prelude.{ℕ, zero, suc, ◌%◌, ◌≤◌, ◌≡◌}
use Rattle.rules.specs.declared.Words.{Words}
use Rattle.vrps.specs.declared.family.Family.{Family}

-- The width of a family's prefixes in bits.
abbrev pub bits : Family → ℕ
bits f = f.bits

-- A width of one to four whole words of 32 bits: that of IPv4 and that of IPv6 are.
pub record Whole (w : ℕ) : Type 0 where
  pub even : w % 32 ≡ 0
  pub least : 32 ≤ w
  pub most : w ≤ 128

-- Word k of a prefix, counted from the leading one.
unfoldable pub word_in : Words → ℕ → ℕ
word_in p zero = p.first
word_in p (suc zero) = p.second
word_in p (suc (suc zero)) = p.third
word_in p (suc (suc (suc k))) = p.fourth
