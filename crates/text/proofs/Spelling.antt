-- Bytes and their hex digits: what a line spells, pair by pair, and the digits of bytes from a position on.
use Prim.Native.Nat.{ℕ, suc, ◌+◌, ◌*◌, ◌/◌, ◌%◌, ◌≤◌, ◌<◌}
use mathlib.Core.Path.{◌≡◌, refl, sym, ap, ◌∙◌}
use mathlib.Core.Bool.{Bool, true, false, false≢true, cond, ◌&&◌}
use mathlib.Core.List.{List, [], ◌∷◌, ◌++◌, flat_map}
use native.Mathlib.Numerals.{add-one}
use native.Mathlib.Omega.{arith}
use borrow.Author.Tests.{lt-ltb, le-ltb, le-leb, lt-leb, eq-eqb, ne_eqb}
use lib.ListN.{length, length-append, drop, get_or, set, drop_of_length-le}
use lib.Seq.{drop-cons, sets-eq, take_at}
use Rattle.rules.specs.Bytes.{every, over}
use Rattle.rules.specs.Text.{digits_max, digit, is_digit, from_hex, readable_line, upper_digit, to_hex}
use Rattle.rules.proofs.Lists.{and_left, and_right}
use Rattle.octets.specs.Buffer.{splice, Stored}
use Rattle.octets.proofs.Splices.{splice-zero}
use Rattle.octets.proofs.Writing.{Writing, writing_start, writing-rest, writing-length, writing_step, writing-end}
use Rattle.text.specs.Hex.{spelled, Read}

-- ---- Bytes from digits

-- A line of digits alone spells all its bytes.
spelled-all : (l : List ℕ) → every is_digit l ≡ true → spelled l ≡ from_hex l
unfolding spelled from_hex every
spelled-all [] h = refl
spelled-all (d ∷ []) h = refl
spelled-all (d ∷ e ∷ s) h =
    let r = and_right (is_digit d) (is_digit e && every is_digit s) h in
    rw (and_left (is_digit d) (is_digit e && every is_digit s) h, and_left (is_digit e) (every is_digit s) r, spelled-all s (and_right (is_digit e) (every is_digit s) r)) refl

-- Whole pairs give a byte for every two digits.
from_hex-length : (l : List ℕ) → length l % 2 ≡ 0 → length (from_hex l) + length (from_hex l) ≡ length l
unfolding from_hex
from_hex-length [] h = refl
from_hex-length (d ∷ []) h = absurd (omega (arith, h))
from_hex-length (d ∷ e ∷ s) h = omega (arith, from_hex-length s (omega (arith, h)))

spelled-length : (l : List ℕ) → length l % 2 ≡ 0 → length (from_hex l) ≡ length l / 2
spelled-length l h = omega (arith, from_hex-length l h)

-- What is spelled takes at most half the room.
spelled-fits : (l : List ℕ) → 2 * length (spelled l) ≤ length l
unfolding spelled
spelled-fits [] = omega arith
spelled-fits (d ∷ []) = omega arith
spelled-fits (d ∷ e ∷ s) = go (is_digit d && is_digit e) (spelled-fits s)
  where
    go : (x : Bool) → 2 * length (spelled s) ≤ length s → 2 * length (cond x ((digit d * 16 + digit e) ∷ spelled s) []) ≤ suc (suc (length s))
    go true ih = omega (arith, ih)
    go false ih = omega arith

two_digits : (p : List ℕ) → length p ≡ 2 → p ≡ get_or p 0 0 ∷ get_or p 1 0 ∷ []
two_digits [] h = absurd (omega (arith, h))
two_digits (d ∷ []) h = absurd (omega (arith, h))
two_digits (d ∷ e ∷ []) h = refl
two_digits (d ∷ e ∷ f ∷ s) h = absurd (omega (arith, h))

-- What is left, where it begins with a pair.
module _ {rest : List ℕ} (pair after : List ℕ) (r : rest ≡ pair ++ after) (two : length pair ≡ 2) where
  pair_at : rest ≡ get_or pair 0 0 ∷ get_or pair 1 0 ∷ after
  pair_at = r ∙ ap (λ (p : List ℕ). p ++ after) (two_digits pair two)

  -- A pair of digits, and the pairs after it.
  pair_next : digit (get_or pair 0 0) ≤ 15 → digit (get_or pair 1 0) ≤ 15
      → (spelled rest ≡ (16 * digit (get_or pair 0 0) + digit (get_or pair 1 0)) ∷ spelled after)
      × (every is_digit rest ≡ every is_digit after)
  unfolding spelled every is_digit
  pair_next g k =
      let e : digit (get_or pair 0 0) * 16 + digit (get_or pair 1 0) ≡ 16 * digit (get_or pair 0 0) + digit (get_or pair 1 0) = omega arith in
      rw (pair_at, lt-ltb (digit (get_or pair 0 0)) 16 (omega (arith, g)), lt-ltb (digit (get_or pair 1 0)) 16 (omega (arith, k)), e) (refl, refl)

  -- A pair that is not of digits ends what is spelled.
  pub pair_high : 15 < digit (get_or pair 0 0) → (spelled rest ≡ []) × (every is_digit rest ≡ false)
  unfolding spelled every is_digit
  pair_high g = rw (pair_at, le-ltb (digit (get_or pair 0 0)) 16 (omega (arith, g))) (refl, refl)

  pub pair_low : digit (get_or pair 0 0) ≤ 15 → 15 < digit (get_or pair 1 0) → (spelled rest ≡ []) × (every is_digit rest ≡ false)
  unfolding spelled every is_digit
  pair_low g k =
      rw (pair_at, lt-ltb (digit (get_or pair 0 0)) 16 (omega (arith, g)), le-ltb (digit (get_or pair 1 0)) 16 (omega (arith, k))) (refl, refl)

-- ---- Decoding: n bytes of raw are stored, and the line is read up to `rest`.

pub record Decoding (s b raw rest : List ℕ) (n : ℕ) : Type 0 where
  pub twice : 2 * n + length rest ≡ length s
  pub wrote : Writing b 0 (spelled s) raw n (spelled rest)
  pub told : every is_digit rest ≡ every is_digit s

pub decoding_start : (s b : List ℕ) → length s ≤ 2 * length b → Decoding s b b s 0
decoding_start s b h = record { twice = omega arith; wrote = writing_start b 0 (spelled s) (omega (arith, spelled-fits s, h)); told = refl }

module _ {s b raw rest : List ℕ} {n : ℕ} (D : Decoding s b raw rest n) where
  -- There is a pair left where a digit is.
  pub decoding_pair : length s % 2 ≡ 0 → 0 < length rest → 1 < length rest
  decoding_pair e h = omega (arith, D.twice, e, h)

  -- No pair is left of an even number of digits.
  pub pair_none : length s % 2 ≡ 0 → length rest < 2 → (spelled rest ≡ []) × (every is_digit rest ≡ true)
  unfolding spelled every
  pair_none e h = go rest (omega (arith, D.twice, e, h))
    where
      go : (l : List ℕ) → length l ≡ 0 → (spelled l ≡ []) × (every is_digit l ≡ true)
      go [] z = (refl, refl)
      go (d ∷ l) z = absurd (omega (arith, z))

  module _ (pair after : List ℕ) (r : rest ≡ pair ++ after) (two : length pair ≡ 2) where
    pub decoding_room : length s ≤ 2 * length b → n < length raw
    decoding_room f = omega (arith, D.twice, writing-length D.wrote, f, two, ap length r, length-append pair after)

    pub decoding_step : {high low : ℕ} → n < length raw → high ≡ digit (get_or pair 0 0) → low ≡ digit (get_or pair 1 0) → high ≤ 15 → low ≤ 15
        → Decoding s b (set raw n (16 * high + low)) after (n + 1)
    unfolding splice
    decoding_step {high} {low} h eh el g k =
        let gh : digit (get_or pair 0 0) ≤ 15 = omega (arith, eh, g) in
        let gl : digit (get_or pair 1 0) ≤ 15 = omega (arith, el, k) in
        let p = pair_next pair after r two gh gl in
        let W = writing-rest D.wrote p.0 in
        let one : Stored raw n ((16 * high + low) ∷ []) (n + 1) (set raw n (16 * high + low)) =
        record { next = refl; is = sets-eq ((16 * high + low) ∷ []) raw n (omega (arith, h)) } in
        record {
          twice = omega (arith, D.twice, two, ap length r, length-append pair after);
          wrote = writing_step {xs = (16 * high + low) ∷ []} (rw (eh, el) W) one;
          told = sym p.1 ∙ D.told;
        }

  -- Nothing more is spelled: what is stored is all, and whether the rest is of digits tells whether the line is.
  pub decoding_end : {x : Bool} → (spelled rest ≡ []) × (every is_digit rest ≡ x) → (x ≡ every is_digit s) × (raw ≡ over (spelled s) b)
  decoding_end e = (sym e.1 ∙ D.told, (writing-end (writing-rest D.wrote e.0)).is ∙ splice-zero b (spelled s))

-- ---- A line read

module _ (l : List ℕ) where
  pub unreadable-empty : length l < 1 → false ≡ readable_line l
  unfolding readable_line
  unreadable-empty h = rw (lt-leb 1 (length l) h) refl

  pub unreadable-long : digits_max < length l → false ≡ readable_line l
  unfolding readable_line
  unreadable-long h = rw (le-leb 1 (length l) (omega arith), lt-leb (length l) digits_max h) refl

  pub read_not : (raw : List ℕ) → false ≡ readable_line l → Read l false raw
  read_not raw e =
      record { is = e; spells = λ t. absurd (false≢true t); some = λ t. absurd (false≢true t); within = λ t. absurd (false≢true t) }

  module _ (a : 1 ≤ length l) (b : length l ≤ digits_max) where
    pub unreadable-odd : (length l % 2 ≡ 0 → ⊥) → false ≡ readable_line l
    unfolding readable_line
    unreadable-odd h = rw (le-leb 1 (length l) a, le-leb (length l) digits_max b, ne_eqb (length l % 2) 0 h) refl

    -- What decoding stored of a readable line is what it spells.
    pub read_digits : (raw : List ℕ) {raw' : List ℕ} {r : Bool} → length l % 2 ≡ 0 → r ≡ every is_digit l → raw' ≡ over (spelled l) raw → Read l r raw'
    unfolding readable_line over
    read_digits raw {raw'} {r} e q s =
        record {
          is = q ∙ rw (le-leb 1 (length l) a, le-leb (length l) digits_max b, eq-eqb (length l % 2) 0 e) refl;
          spells = λ t.
              rw (s, spelled-all l (sym q ∙ t)) (take_at (from_hex l) (drop (length (from_hex l)) raw) (length l / 2) (spelled-length l e));
          some = λ t. omega arith;
          within = λ t. b;
        }

-- ---- Digits from bytes

pub hex-length : (s : List ℕ) → length (to_hex s) ≡ 2 * length s
unfolding to_hex flat_map
hex-length [] = refl
hex-length (b ∷ s) = omega (arith, hex-length s)

-- The two digits of the byte at a position, and those after them.
pub hex-next : (s : List ℕ) (i : ℕ) {high low : ℕ} → i < length s → high ≡ upper_digit (get_or s i 0 / 16) → low ≡ upper_digit (get_or s i 0 % 16)
    → to_hex (drop i s) ≡ (high ∷ []) ++ (low ∷ []) ++ to_hex (drop (i + 1) s)
unfolding to_hex flat_map
hex-next s i h eh el = rw (drop-cons s i 0 h, add-one i, eh, el) refl

pub hex-end : (s : List ℕ) (i : ℕ) → length s ≤ i → to_hex (drop i s) ≡ []
unfolding to_hex flat_map
hex-end s i h = rw (drop_of_length-le s h) refl
