-- Which leading parts are among those of some records, and how many of a route's are.
use mathlib.Core.Path.{◌≡◌, refl, sym, ap, ◌∙◌}
use mathlib.Core.Logic.{⊎_elim}
use mathlib.Core.Bool.{Bool, true, false, cond, not, ◌&&◌, ◌||◌, or-false, or_assoc, or_comm}
use mathlib.Core.List.{List, [], ◌∷◌}
use Prim.Native.Nat.{ℕ, zero, suc, ◌+◌, ◌-◌, ◌/◌, ◌^◌, ◌≤◌, ◌<◌}
use native.Mathlib.Nat.{eq-zero-or-pos, div-eq_of_lt}
use native.Mathlib.Omega.{arith}
use borrow.Author.Tests.{eq-eqb, ne_eqb}
use lib.Dec.{eqb, leb}
use lib.ListN.{length}
use lib.Pow.{pow_mono}
use Rattle.rules.specs.Bytes.{exists}
use Rattle.rules.specs.Origin.{Vrp, agree}
use Rattle.vrp_tree.specs.Tree.{part_of, own, spot, added, grown, parts_of, on_of, met_of}
use Rattle.vrp_tree.specs.Memory.{Fits, Linked, none, more}
use Rattle.rules.specs.Index.{counted, is_node}
use Rattle.vrp_tree.proofs.Numbers.{same, part_up, part-root}
use Rattle.vrp_tree.proofs.Parts.{spot-new, spot-old, added_new, added-old}
use Rattle.vrp_tree.proofs.Covering.{on-agree}

-- Whether a number is not 0.
abbrev pub some : ℕ → Bool
some n = not (eqb n 0)

-- ## A part more

some-new : (x : ℕ) (ks : List ℕ) (y : ℕ) → some (spot (x ∷ ks) y) ≡ (eqb y x || some (spot ks y))
some-new x ks y = ⊎_elim
    (λ (e : x ≡ y). rw (← e, spot-new ks x, ne_eqb (length ks + 1) 0 (λ (z : length ks + 1 ≡ 0). omega arith), eq-eqb x x refl) refl)
    (λ (ne : x ≡ y → ⊥). rw (spot-old ks x y ne, ne_eqb y x (λ (z : y ≡ x). ne (sym z))) refl)
    (same x y)

empty : (y : ℕ) → some (spot [] y) ≡ false
unfolding spot
empty y = refl

pub some-added : (ks : List ℕ) (x y : ℕ) → some (spot (added ks x) y) ≡ (eqb y x || some (spot ks y))
some-added ks x y = ⊎_elim
    (λ (z : spot ks x ≡ 0). rw (added_new ks x z) (some-new x ks y))
    (λ (p : 0 < spot ks x). rw (added-old ks x p) (⊎_elim
    (λ (e : y ≡ x). rw (e, eq-eqb x x refl, ne_eqb (spot ks x) 0 (λ (z : spot ks x ≡ 0). omega arith)) refl)
    (λ (ne : y ≡ x → ⊥). rw (ne_eqb y x ne) refl)
    (same y x)))
    (eq-zero-or-pos (spot ks x))

-- The parts of k with fewer than `left` bits left.
unfoldable pub among : ℕ → ℕ → ℕ → Bool
among zero k y = false
among (suc left) k y = eqb y (k / 2 ^ left) || among left k y

some-grown : (left k : ℕ) (ks : List ℕ) (y : ℕ) → some (spot (grown left k ks) y) ≡ (among left k y || some (spot ks y))
unfolding grown among
some-grown zero k ks y = refl
some-grown (suc left) k ks y = some-grown left k (added ks (k / 2 ^ left)) y ∙ rw (some-added ks (k / 2 ^ left) y) (swap (among left k y) (eqb y (k / 2 ^ left)) (some (spot ks y)))
  where
    swap : (a b c : Bool) → (a || (b || c)) ≡ ((b || a) || c)
    swap a b c = sym (or_assoc a b c) ∙ ap (λ (x : Bool). x || c) (or_comm a b)

on-among : (left k y : ℕ) → on_of y k left ≡ (eqb y (k / 2 ^ left) || among left k y)
unfolding on_of among
on-among zero k y = sym (or-false (eqb y (k / 2 ^ 0)))
on-among (suc left) k y = ap (λ (b : Bool). eqb y (k / 2 ^ suc left) || b) (on-among left k y)

-- ## The parts of some records

-- Records each of which has the prefix and the length of the width.
pub data Fit (w : ℕ) : List Vrp → Type 0 where
  all : Fit w []
  also : {v : Vrp} {vs : List Vrp} → Fits w v → Fit w vs → Fit w (v ∷ vs)

pub linked-fit : {w : ℕ} {t : List ℕ} {vs : List Vrp} → Linked w t vs → Fit w vs
linked-fit none = all
linked-fit (more f e₀ e₁ e₂ ls) = also f (linked-fit ls)

module _ (w p m : ℕ) (fp : p < 2 ^ w) (hm : m ≤ w) where
  -- Only the empty part is 1.
  one-part : eqb (part_of w p m) 1 ≡ eqb m 0
  one-part = ⊎_elim
      (λ (e : m ≡ 0).
      let f : w - 0 ≡ w = omega arith in
      rw (e, f, div-eq_of_lt fp) refl)
      (λ (l : 0 < m).
      let b : 2 ^ 1 ≤ 2 ^ m = pow_mono {i = 1} {j = m} (omega arith) in
      rw (ne_eqb (part_of w p m) 1 (λ (z : part_of w p m ≡ 1). omega arith), ne_eqb m 0 (λ (z : m ≡ 0). omega arith)) refl)
      (eq-zero-or-pos m)

  pub in_parts : {vs : List Vrp} → Fit w vs → some (spot (parts_of w vs) (part_of w p m)) ≡ is_node w vs p m
  unfolding parts_of is_node exists
  in_parts all = some-new 1 [] (part_of w p m) ∙ rw (one-part) (ap (λ (b : Bool). eqb m 0 || b) (empty (part_of w p m)))
  in_parts (also {v} {vs} f ls) =
      let root = part-root w v.prefix v.len f.long f.within in
      let on : (eqb m 0 || among v.len (own w v) (part_of w p m)) ≡ (leb m v.len && agree w m v.prefix p) =
      ap (λ (b : Bool). b || among v.len (own w v) (part_of w p m)) (sym one-part ∙ ap (eqb (part_of w p m)) (sym root))
      ∙ sym (on-among v.len (own w v) (part_of w p m)) ∙ on-agree w f p m fp hm in
      some-grown v.len (own w v) (parts_of w vs) (part_of w p m)
      ∙ rw (in_parts ls, ← on) (mix (among v.len (own w v) (part_of w p m)) (eqb m 0) (exists (λ v. leb m v.len && agree w m v.prefix p) vs))
    where
      mix : (a z e : Bool) → (a || (z || e)) ≡ (z || ((z || a) || e))
      mix true true e = refl
      mix true false e = refl
      mix false true e = refl
      mix false false e = refl

-- ## How many

bit-some : (n : ℕ) (b : Bool) → some n ≡ b → cond {A = ℕ} (eqb n 0) 0 1 ≡ cond {A = ℕ} b 1 0
bit-some n b e = go (eqb n 0) e
  where
    go : (x : Bool) → not x ≡ b → cond {A = ℕ} x 0 1 ≡ cond {A = ℕ} b 1 0
    go true e = rw (← e) refl
    go false e = rw (← e) refl

module _ (w p len : ℕ) (fp : p < 2 ^ w) (hl : len ≤ w) {t : List ℕ} {vs : List Vrp} (linked : Linked w t vs) where
  met-counted : (left : ℕ) → left ≤ len → counted (is_node w vs p) (suc len) ≡ met_of (parts_of w vs) (part_of w p len) left + counted (is_node w vs p) (len - left)
  unfolding met_of counted
  met-counted zero h =
      let e : len - 0 ≡ len = omega arith in
      rw (part_up w p len 0 h hl, e, bit-some (spot (parts_of w vs) (part_of w p len)) (is_node w vs p len) (in_parts w p len fp hl (linked-fit linked))) refl
  met-counted (suc left) h =
      let e : len - left ≡ suc (len - suc left) = omega arith in
      met-counted left (omega arith)
      ∙ rw (
        part_up w p len (suc left) h hl,
        e,
        bit-some (spot (parts_of w vs) (part_of w p (len - suc left))) (is_node w vs p (len - suc left)) (in_parts w p (len - suc left) fp (omega arith) (linked-fit linked)),
      )
      (omega arith)

  pub visited-met : met_of (parts_of w vs) (part_of w p len) len ≡ counted (is_node w vs p) (suc len)
  unfolding counted
  visited-met = let e : len - len ≡ 0 = omega arith in let c = rw e at (met-counted len (omega arith)) in sym (c ∙ omega arith)
