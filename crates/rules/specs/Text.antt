-- Lines, hexadecimal and decimal text (01, "The desk program").
use Rattle.std.specs.Prelude.{ℕ, zero, suc, ◌+◌, ◌-◌, ◌*◌, ◌/◌, ◌%◌, Bool, cond, ◌&&◌, leb, ltb, eqb, length}
use mathlib.Core.List.{List, [], ◌∷◌, ◌++◌, flat_map}
use Rattle.rules.specs.Bytes.{every}

-- ---- Lines

abbrev pub line_feed : ℕ
line_feed = 10

-- "Lines end at a line feed or the end of input; nothing after the last line feed is no line."
unfoldable pub in_first_line : ℕ → List (List ℕ) → List (List ℕ)
in_first_line b [] = (b ∷ []) ∷ []
in_first_line b (l ∷ ls) = (b ∷ l) ∷ ls

unfoldable pub lines : List ℕ → List (List ℕ)
lines [] = []
lines (b ∷ bs) = cond (eqb b line_feed) ([] ∷ lines bs) (in_first_line b (lines bs))

-- What lines say in turn, where each says something by the state before it and leaves another.
unfoldable pub said_from : {S : Type 0} → (S → List ℕ → List ℕ) → (S → List ℕ → S) → S → List (List ℕ) → List ℕ
said_from say next s [] = []
said_from say next s (l ∷ ls) = say s l ++ said_from say next (next s l) ls

-- ---- Hex in

-- "hex digits of either case", by ASCII; 16 for any other byte
unfoldable pub digit : ℕ → ℕ
digit b =
    cond (leb 48 b && leb b 57) (b - 48)
    (cond (leb 65 b && leb b 70) (b - 55)
    (cond (leb 97 b && leb b 102) (b - 87) 16))

unfoldable pub is_digit : ℕ → Bool
is_digit b = ltb (digit b) 16

-- The bytes that pairs of digits spell. (A readable line leaves no digit over.)
unfoldable pub from_hex : List ℕ → List ℕ
from_hex [] = []
from_hex (d ∷ []) = []
from_hex (d ∷ e ∷ s) = (digit d * 16 + digit e) ∷ from_hex s

abbrev pub digits_max : ℕ
digits_max = 8192

-- "A readable line (whole bytes of hex, at least one, within the limit)"
unfoldable pub readable_line : List ℕ → Bool
readable_line l = leb 1 (length l) && leb (length l) digits_max && eqb (length l % 2) 0 && every is_digit l

-- ---- Text out

abbrev pub space : ℕ
space = 32

abbrev pub dash : ℕ
dash = 45

-- A number in decimal, of at most k digits.
unfoldable pub decimal_up_to : ℕ → ℕ → List ℕ
decimal_up_to zero n = []
decimal_up_to (suc k) n = cond (ltb n 10) ((48 + n) ∷ []) (decimal_up_to k (n / 10) ++ ((48 + n % 10) ∷ []))

unfoldable pub decimal : ℕ → List ℕ
decimal n = decimal_up_to (suc n) n

-- "upper-case hex"
unfoldable pub upper_digit : ℕ → ℕ
upper_digit d = cond (ltb d 10) (48 + d) (55 + d)

unfoldable pub to_hex : List ℕ → List ℕ
to_hex s = flat_map (λ b. upper_digit (b / 16) ∷ upper_digit (b % 16) ∷ []) s
