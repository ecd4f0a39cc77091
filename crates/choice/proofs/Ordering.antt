-- The order of routes by their keys, and their classes, each as the code tests it.
use Prim.Native.Nat.{ℕ, zero, suc, ◌≤◌}
use mathlib.Core.Path.{◌≡◌, refl, sym, ◌∙◌}
use mathlib.Core.Bool.{Bool, true, false, cond, ◌&&◌, ◌||◌, or-false}
use mathlib.Core.List.{List, [], ◌∷◌}
use native.Mathlib.Omega.{arith}
use native.Mathlib.Nat.{le_refl}
use borrow.Author.Tests.{eq-eqb, ne_eqb, le-ltb}
use lib.Dec.{ltb, eqb}
use lib.ListN.{get_or}
use Rattle.std.specs.Prelude.{Option, Some}
use Rattle.std.proofs.Common.{Ordering, Less, Equal, Greater}
use Rattle.std.specs.Ordering.{is_lt, is_some_and, nat_cmp, partial_ordering_then}
use Rattle.rules.specs.Settings.{prioritise}
use Rattle.rules.specs.Choice.{before}
use Rattle.choice.specs.Bests.{rank}

-- The first key decides where it differs, else those after it.
module _ (x y : ℕ) (xs ys : List ℕ) where
  pub before-first : (x ≡ y → ⊥) → ltb x y ≡ before (x ∷ xs) (y ∷ ys)
  unfolding before
  before-first h = rw (ne_eqb x y h) (sym (or-false (ltb x y)))

  pub before-next : x ≡ y → before xs ys ≡ before (x ∷ xs) (y ∷ ys)
  unfolding before
  before-next e = rw (e, le-ltb y y (le_refl y), eq-eqb y y refl) refl

-- By the order that `Keys` derives, as by `before`, the first key decides where it differs, else those after it.
module _ (x y : ℕ) where
  pub before-then : (p : Option Ordering) (xs ys : List ℕ) → is_some_and is_lt p ≡ before xs ys
      → is_some_and is_lt (partial_ordering_then (Some (nat_cmp x y)) p) ≡ before (x ∷ xs) (y ∷ ys)
  unfolding before
  before-then p xs ys e = go (ltb x y) (eqb x y)
    where
      go : (less same : Bool) → is_some_and is_lt (partial_ordering_then (Some (cond less Less (cond same Equal Greater))) p) ≡ (less || (same && before xs ys))
      go true same = refl
      go false true = e
      go false false = refl

  pub before_last : is_some_and is_lt (Some (nat_cmp x y)) ≡ before (x ∷ []) (y ∷ [])
  unfolding before
  before_last = go (ltb x y) (eqb x y)
    where
      go : (less same : Bool) → is_some_and is_lt (Some (cond less Less (cond same Equal Greater))) ≡ (less || (same && false))
      go true same = refl
      go false true = refl
      go false false = refl

-- Classes: one for all, or those of the states, of which the last is that of every other state.
module _ (mode state : ℕ) where
  pub rank-one : (mode ≡ prioritise → ⊥) → 0 ≡ rank mode state
  unfolding rank
  rank-one h = rw (ne_eqb mode prioritise h) refl

  pub rank-class : mode ≡ prioritise → {n : ℕ} → n ≡ get_or (0 ∷ 1 ∷ 2 ∷ 1 ∷ []) state 2 → n ≡ rank mode state
  unfolding rank
  rank-class e q = q ∙ rw (eq-eqb mode prioritise e) refl

  pub rank-top : rank mode state ≤ 2
  unfolding rank
  rank-top = go (eqb mode prioritise) state
    where
      go : (x : Bool) (n : ℕ) → cond x (get_or (0 ∷ 1 ∷ 2 ∷ 1 ∷ []) n 2) 0 ≤ 2
      go false n = omega arith
      go true zero = omega arith
      go true (suc zero) = omega arith
      go true (suc (suc zero)) = omega arith
      go true (suc (suc (suc zero))) = omega arith
      go true (suc (suc (suc (suc n)))) = omega arith

pub class_last : (state : ℕ) → (state ≡ 0 → ⊥) → (state ≡ 1 → ⊥) → (state ≡ 3 → ⊥) → ◌≡◌ {A = ℕ} 2 (get_or (0 ∷ 1 ∷ 2 ∷ 1 ∷ []) state 2)
class_last zero a b c = absurd (a refl)
class_last (suc zero) a b c = absurd (b refl)
class_last (suc (suc zero)) a b c = refl
class_last (suc (suc (suc zero))) a b c = absurd (c refl)
class_last (suc (suc (suc (suc n)))) a b c = refl
