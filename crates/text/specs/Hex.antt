-- What decoding stores of a line that need not be hex, and what reading a line promises.
use Rattle.std.specs.Prelude.{ℕ, ◌+◌, ◌*◌, ◌/◌, ◌≤◌, ◌≡◌, Bool, true, cond, ◌&&◌, List, [], ◌∷◌, length, take}
use Rattle.rules.specs.Text.{digits_max, digit, is_digit, from_hex, readable_line}

-- The bytes that pairs of digits spell, up to the first pair with a bad digit.
unfoldable pub spelled : List ℕ → List ℕ
spelled [] = []
spelled (d ∷ []) = []
spelled (d ∷ e ∷ s) = cond (is_digit d && is_digit e) ((digit d * 16 + digit e) ∷ spelled s) []

-- Whether a line was readable; if it was, the bytes that it spells, at least one, stand at the start of `raw`.
pub record Read (line : List ℕ) (r : Bool) (raw : List ℕ) : Type 0 where
  pub is : r ≡ readable_line line
  pub spells : r ≡ true → take (length line / 2) raw ≡ from_hex line
  pub some : r ≡ true → 2 ≤ length line
  pub within : r ≡ true → length line ≤ digits_max
