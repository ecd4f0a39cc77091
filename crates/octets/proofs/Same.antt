-- Two rows of bytes compared one by one: what is known so far and what is left to compare make up the whole.
use Prim.Native.Nat.{ℕ, ◌+◌, ◌≤◌, ◌<◌}
use mathlib.Core.Path.{◌≡◌, refl, sym, ap, ◌∙◌}
use mathlib.Core.Bool.{Bool, true, false, ◌&&◌, and_assoc, and-true}
use mathlib.Core.List.{List, ◌∷◌}
use native.Mathlib.Omega.{arith}
use native.Mathlib.Numerals.{add-one}
use lib.Dec.{eqb}
use lib.ListN.{length, get_or, drop, drop_of_length-le}
use lib.Seq.{drop-cons}
use Rattle.rules.specs.Bytes.{same_bytes}
use Rattle.rules.proofs.Lists.{same_true}

-- Rows of unequal lengths are not the same.
pub same_lengths : (s t : List ℕ) → (length s ≡ length t → ⊥) → false ≡ same_bytes s t
same_lengths s t h = go (same_bytes s t) refl
  where
    go : (x : Bool) → same_bytes s t ≡ x → false ≡ x
    go true e = absurd (h (ap length (same_true s t e)))
    go false e = refl

drop-next : (s : List ℕ) (i : ℕ) → i < length s → drop i s ≡ get_or s i 0 ∷ drop (i + 1) s
drop-next s i h = drop-cons s i 0 h ∙ ap (λ (k : ℕ). get_or s i 0 ∷ drop k s) (sym (add-one i))

pub record Same (s t : List ℕ) (same : Bool) (i : ℕ) : Type 0 where
  pub within : i ≤ length s
  pub long : length s ≡ length t
  pub is : same && same_bytes (drop i s) (drop i t) ≡ same_bytes s t

module _ {s t : List ℕ} where
  pub same_start : length s ≡ length t → Same s t true 0
  same_start e = record { within = omega arith; long = e; is = refl }

  module _ {same : Bool} {i : ℕ} (w : Same s t same i) where
    pub same_next : i < length s → {next : Bool} → next ≡ same && eqb (get_or s i 0) (get_or t i 0) → Same s t next (i + 1)
    same_next h e =
        record {
          within = omega arith;
          long = w.long;
          is = rw (e, and_assoc same (eqb (get_or s i 0) (get_or t i 0)) (same_bytes (drop (i + 1) s) (drop (i + 1) t))) (ap (λ (x : Bool). same && x) (sym one) ∙ w.is);
        }
      where
        one : same_bytes (drop i s) (drop i t) ≡ eqb (get_or s i 0) (get_or t i 0) && same_bytes (drop (i + 1) s) (drop (i + 1) t)
        one = unfold same_bytes in rw (drop-next s i h, drop-next t i (omega (arith, w.long))) refl

    pub same_end : length s ≤ i → same ≡ same_bytes s t
    unfolding same_bytes
    same_end h =
        let k : length t ≤ i = omega (arith, w.long) in
        sym (and-true same) ∙ (rw (drop_of_length-le s h, drop_of_length-le t k) at w.is)
