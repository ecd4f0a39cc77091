-- The words of a prefix, and two prefixes of whole words walked word by word.
use Prim.Native.Nat.{ℕ, zero, suc, ◌+◌, ◌-◌, ◌*◌, ◌/◌, ◌%◌, ◌^◌, ◌≤◌, ◌<◌}
use mathlib.Core.Path.{◌≡◌, refl, sym, ap, ◌∙◌, subst}
use mathlib.Core.Bool.{Bool, true, false, cond}
use mathlib.Core.List.{List}
use native.Mathlib.Nat.{div-one, mod-eq_of_lt}
use native.Mathlib.Numerals.{add-one}
use native.Mathlib.Omega.{arith}
use borrow.Author.Tests.{le-leb}
use lib.Dec.{leb}
use lib.ListN.{length, take, drop, length-drop}
use lib.Arith.{digits_lt}
use lib.Seq.{length-take-le}
use lib.Pow.{shr-shr, shr_lt, high, low, split}
use Rattle.rules.specs.declared.Words.{Words}
use Rattle.rules.specs.Bytes.{big_endian, part}
use Rattle.rules.specs.Origin.{spelled, prefix_in, agree}
use Rattle.rules.proofs.Prefixes.{word_at, bits-low, words-equal, walk_last, walk_next, walk_differs}
use Rattle.octets.specs.Numbers.{Octets}
use Rattle.octets.proofs.Slices.{part-is}
use Rattle.octets.proofs.Numbers.{big_endian-below, word_bytes}
use Rattle.vrps.specs.Widths.{Whole, bits, word_in}
use Rattle.vrps.specs.declared.family.Family.{Family}

-- The prefixes of a family are of whole words.
pub whole_bits : (f : Family) → Whole (bits f)
whole_bits f = record { even = f.even; least = f.least; most = f.most }

-- The bytes of a prefix are as many as it is wide.
pub prefix_width : {w : ℕ} → Whole w → (s : List ℕ) → w / 8 ≤ length s → 8 * length (take (w / 8) s) ≡ w
prefix_width {w} h s e = omega (arith, length-take-le (w / 8) s e, h.even)

-- A prefix that stands in bytes from an index on, as `&f[i..i + w / 8]` lends it, and read as words.
module _ {w : ℕ} (whole : Whole w) (f : List ℕ) (i : ℕ) (h : i + w / 8 ≤ length f) where
  lent_width : 8 * length (take (i + w / 8 - i) (drop i f)) ≡ w
  lent_width = rw (part-is f i (w / 8)) (prefix_width whole (drop i f) (omega (arith, length-drop i f)))

  pub lent-whole : Whole (8 * length (take (i + w / 8 - i) (drop i f)))
  lent-whole = rw lent_width whole

  pub lent-read : (p : Words) → prefix_in (8 * length (take (i + w / 8 - i) (drop i f))) p ≡ big_endian (take (i + w / 8 - i) (drop i f))
      → prefix_in w p ≡ big_endian (part i (w / 8) f)
  unfolding part
  lent-read p e = (rw lent_width at e) ∙ ap big_endian (part-is f i (w / 8))

-- Each word has 32 bits.
abbrev pub Ranged : Words → Type 0
Ranged p = (p.first < 2 ^ 32) × (p.second < 2 ^ 32) × (p.third < 2 ^ 32) × (p.fourth < 2 ^ 32)

module _ (p : Words) (f : Ranged p) where
  -- What is left of the four words without the last one, two, three.
  without_1 : spelled p / 2 ^ 32 ≡ (p.first * 2 ^ 32 + p.second) * 2 ^ 32 + p.third
  unfolding spelled
  without_1 = high ((p.first * 2 ^ 32 + p.second) * 2 ^ 32 + p.third) 32 f.3

  without_2 : spelled p / 2 ^ 64 ≡ p.first * 2 ^ 32 + p.second
  without_2 = sym (shr-shr (spelled p) 32 32) ∙ rw without_1 (high (p.first * 2 ^ 32 + p.second) 32 f.2)

  without_3 : spelled p / 2 ^ 96 ≡ p.first
  without_3 = sym (shr-shr (spelled p) 64 32) ∙ rw without_2 (high p.first 32 f.1)

  -- A prefix of one word is the first.
  pub prefix-first : prefix_in 32 p ≡ p.first
  unfolding prefix_in
  prefix-first = without_3

  pub agree-first : {w : ℕ} → w ≡ 32 → (n a : ℕ) → agree 32 n a p.first ≡ agree w n a (prefix_in w p)
  agree-first e n a = sym (rw (e, prefix-first) refl)

  fourth : spelled p % 2 ^ 32 ≡ p.fourth
  unfolding spelled
  fourth = low ((p.first * 2 ^ 32 + p.second) * 2 ^ 32 + p.third) 32 f.3

  -- Word k of the prefix is the word handed over.
  spelled_word : (k : ℕ) → k < 4 → spelled p / 2 ^ (128 - 32 * suc k) % 2 ^ 32 ≡ word_in p k
  unfolding word_in
  spelled_word zero h = rw without_3 (mod-eq_of_lt f.0)
  spelled_word (suc zero) h = rw without_2 (low p.first 32 f.1)
  spelled_word (suc (suc zero)) h = rw without_1 (low (p.first * 2 ^ 32 + p.second) 32 f.2)
  spelled_word (suc (suc (suc zero))) h = rw (div-one (spelled p)) fourth
  spelled_word (suc (suc (suc (suc k)))) h = absurd (omega arith)

  -- Octet i stands in word i / 4.
  pub word_octet : (i : ℕ) → i < 16 → word_in p (i / 4) / 2 ^ (24 - 8 * (i % 4)) % 2 ^ 8 ≡ spelled p / 2 ^ (120 - 8 * i) % 2 ^ 8
  word_octet i h =
      let d : 32 ≡ 8 * (i % 4) + 8 + (24 - 8 * (i % 4)) = omega arith in
      let k : i / 4 < 4 = omega arith in
      let e : 128 - 32 * suc (i / 4) + (24 - 8 * (i % 4)) ≡ 120 - 8 * i = at (i / 4) (i % 4) k (omega arith) ∙ ap (λ (n : ℕ). 120 - 8 * n) (omega arith) in
      ap (λ (n : ℕ). n / 2 ^ (24 - 8 * (i % 4)) % 2 ^ 8) (sym (spelled_word (i / 4) (omega arith)))
      ∙ ap (λ (n : ℕ). spelled p / 2 ^ (128 - 32 * suc (i / 4)) % 2 ^ n / 2 ^ (24 - 8 * (i % 4)) % 2 ^ 8) d
      ∙ bits-low (spelled p / 2 ^ (128 - 32 * suc (i / 4))) (24 - 8 * (i % 4)) (8 * (i % 4)) 8
      ∙ ap (λ (n : ℕ). n % 2 ^ 8) (shr-shr (spelled p) (128 - 32 * suc (i / 4)) (24 - 8 * (i % 4)) ∙ ap (λ (n : ℕ). spelled p / 2 ^ n) e)
    where
      at : (k r : ℕ) → k < 4 → r < 4 → 128 - 32 * suc k + (24 - 8 * r) ≡ 120 - 8 * (4 * k + r)
      at k r h l = omega arith

  pub prefix_word : (w k : ℕ) → 32 * suc k ≤ w → w ≤ 128 → word_at w (prefix_in w p) k ≡ word_in p k
  unfolding prefix_in
  prefix_word w k l m =
      let e : 128 - w + (w - 32 * suc k) ≡ 128 - 32 * suc k = omega arith in
      ap (λ (n : ℕ). n % 2 ^ 32) (shr-shr (spelled p) (128 - w) (w - 32 * suc k) ∙ ap (λ (n : ℕ). spelled p / 2 ^ n) e) ∙ spelled_word k (omega arith)

  -- It is less than a number of w bits.
  pub prefix-below : (w : ℕ) → w ≤ 128 → prefix_in w p < 2 ^ w
  unfolding prefix_in spelled
  prefix-below w m =
      let e : 128 ≡ w + (128 - w) = omega arith in
      let all : spelled p < 2 ^ 128 = digits_lt (digits_lt (digits_lt f.0 f.1) f.2) f.3 in
      shr_lt w (128 - w) (subst (λ (n : ℕ). spelled p < 2 ^ n) e all)

  -- A prefix whose words are those of some bytes.
  pub prefix-bytes : (s : List ℕ) → Whole (8 * length s) → Octets s → ((k : ℕ) → 4 * k + 4 ≤ length s → word_in p k ≡ big_endian (part (4 * k) 4 s))
      → prefix_in (8 * length s) p ≡ big_endian s
  prefix-bytes s w o words =
      words-equal (8 * length s) _ _ w.even (prefix-below (8 * length s) w.most) (big_endian-below s o)
      (λ k l. prefix_word (8 * length s) k l w.most ∙ words k (omega arith) ∙ sym (word_bytes s o k (omega arith)))

-- Bit j of an octet, counted from the last, is a bit of the number that the octet was cut out of.
pub octet_bit : (x a j : ℕ) → j < 8 → x / 2 ^ a % 2 ^ 8 / 2 ^ j % 2 ≡ x / 2 ^ (a + j) % 2
octet_bit x a j h =
    let d : 8 ≡ 7 - j + 1 + j = omega arith in
    ap (λ (n : ℕ). x / 2 ^ a % 2 ^ n / 2 ^ j % 2) d ∙ bits-low (x / 2 ^ a) j (7 - j) 1 ∙ ap (λ (n : ℕ). n % 2) (shr-shr x a j)

-- Where a prefix of whole words goes on, it has a whole word more.
word_room : (w k : ℕ) → w % 32 ≡ 0 → 32 * k < w → 32 * suc k ≤ w
word_room w k e h =
    let d : w ≡ 32 * (w / 32) = omega arith in
    let l : k < w / 32 = omega (arith, d, h) in
    omega (arith, d, l)

-- A prefix in bytes and one in words, walked up to word k: the words before agree, and so many bits are left.
pub record Walked (s : List ℕ) (p : Words) (n k left : ℕ) : Type 0 where
  pub bits : n ≡ 32 * k + left
  pub room : 32 * k < 8 * length s
  pub same : agree (8 * length s) (32 * k) (big_endian s) (prefix_in (8 * length s) p) ≡ true

module _ (s : List ℕ) (p : Words) (n : ℕ) (w : Whole (8 * length s)) where
  pub walked_start : Walked s p n 0 n
  unfolding agree
  walked_start = record { bits = omega arith; room = omega (arith, w.least); same = refl }

  -- Word k is there.
  pub walked-room : {k left : ℕ} → Walked s p n k left → 4 * k + 4 ≤ length s
  walked-room {k} v = omega (arith, word_room (8 * length s) k w.even v.room)

  module _ (o : Octets s) (f : Ranged p) {k left : ℕ} (v : Walked s p n k left) where
    here : 32 * suc k ≤ 8 * length s
    here = word_room (8 * length s) k w.even v.room

    -- Word k of each.
    module _ {x y : ℕ} (a : x ≡ big_endian (part (4 * k) 4 s)) (b : y ≡ word_in p k) where
      of_bytes : word_at (8 * length s) (big_endian s) k ≡ x
      of_bytes = word_bytes s o k (omega (arith, here)) ∙ sym a

      of_words : word_at (8 * length s) (prefix_in (8 * length s) p) k ≡ y
      of_words = prefix_word p f (8 * length s) k here w.most ∙ sym b

      pub walked_differs : (x ≡ y → ⊥) → 32 < left → false ≡ agree (8 * length s) n (big_endian s) (prefix_in (8 * length s) p)
      walked_differs d l =
          walk_differs (8 * length s) _ _ k here v.same (λ e. d (sym of_bytes ∙ e ∙ of_words)) n (omega (arith, v.bits))

      pub walked_next : x ≡ y → 32 < left → n ≤ 8 * length s → Walked s p n (k + 1) (left - 32)
      walked_next e l m =
          record {
            bits = omega (arith, v.bits);
            room = omega (arith, v.bits);
            same = rw (add-one k) (walk_next (8 * length s) _ _ k here v.same (of_bytes ∙ e ∙ sym of_words));
          }

      pub walked_last : left ≤ 32 → {r : Bool} → r ≡ agree 32 left x y → r ≡ agree (8 * length s) n (big_endian s) (prefix_in (8 * length s) p)
      walked_last l e =
          walk_last (8 * length s) _ _ k here v.same l (e ∙ rw (of_bytes, of_words) refl) ∙ ap (λ (i : ℕ). agree (8 * length s) i (big_endian s) (prefix_in (8 * length s) p)) (sym v.bits)

-- Two numbers of 64 bits, as four words.
pub spelled-halves : (h l : ℕ) → spelled (record { first = h / 2 ^ 32; second = h % 2 ^ 32; third = l / 2 ^ 32; fourth = l % 2 ^ 32 }) ≡ h * 2 ^ 64 + l
unfolding spelled
spelled-halves h l =
    let a = split h 32 in
    let b = split l 32 in
    omega (arith, a, b)

-- Past its first three words comes the last.
pub word_fourth : (p : Words) (k : ℕ) → (k ≡ 0 → ⊥) → (k ≡ 1 → ⊥) → (k ≡ 2 → ⊥) → p.fourth ≡ word_in p k
unfolding word_in
word_fourth p zero a b c = absurd (a refl)
word_fourth p (suc zero) a b c = absurd (b refl)
word_fourth p (suc (suc zero)) a b c = absurd (c refl)
word_fourth p (suc (suc (suc k))) a b c = refl

-- Four words, each by itself, or 0 past the end.
abbrev WordOf : List ℕ → ℕ → ℕ → Type 0
WordOf s k x = x ≡ cond (leb (4 * k + 4) (length s)) (big_endian (part (4 * k) 4 s)) 0

pub four-words : (s : List ℕ) → Whole (8 * length s) → {a b c d : ℕ} → WordOf s 0 a → WordOf s 1 b → WordOf s 2 c → WordOf s 3 d
    → (k : ℕ) → 4 * k + 4 ≤ length s → word_in (record { first = a; second = b; third = c; fourth = d }) k ≡ big_endian (part (4 * k) 4 s)
unfolding word_in
four-words s w a b c d zero h = a ∙ rw (le-leb (4 * 0 + 4) (length s) h) refl
four-words s w a b c d (suc zero) h = b ∙ rw (le-leb (4 * 1 + 4) (length s) h) refl
four-words s w a b c d (suc (suc zero)) h = c ∙ rw (le-leb (4 * 2 + 4) (length s) h) refl
four-words s w a b c d (suc (suc (suc zero))) h = d ∙ rw (le-leb (4 * 3 + 4) (length s) h) refl
four-words s w a b c d (suc (suc (suc (suc k)))) h = absurd (omega (arith, w.most))
