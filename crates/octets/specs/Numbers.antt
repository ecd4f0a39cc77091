-- What is known of the bytes of a slice.
use Rattle.std.specs.Prelude.{ℕ, ◌<◌, List, get_or}

-- Each number is one of a byte.
abbrev pub Octets : List ℕ → Type 0
Octets s = (i : ℕ) → get_or s i 0 < 256
