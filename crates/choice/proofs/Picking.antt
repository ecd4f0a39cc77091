-- The best of some candidates as they are met in their sequence: that of the lowest class, by the order, with how many there are.
use Prim.Native.Nat.{ℕ, suc, ◌+◌, ◌≤◌, ◌<◌, min}
use mathlib.Core.Path.{◌≡◌, refl, sym, ap, ◌∙◌, subst}
use mathlib.Core.Bool.{Bool, true, false, cond}
use mathlib.Core.List.{List, [], ◌∷◌, map, foldl}
use native.Mathlib.Nat.{add-zero, min-eq_left, min-eq_right, min-le_left}
use native.Mathlib.Omega.{arith}
use borrow.Author.Tests.{lt-ltb, le-ltb, ltb-true, ltb-false, ne_eqb, eq-eqb}
use lib.Dec.{ltb, eqb}
use lib.ListN.{length}
use Rattle.rules.specs.Bytes.{is_empty, keep}
use Rattle.rules.specs.Choice.{Numbered, keys, before, meet, chosen_from}
use Rattle.std.specs.Prelude.{Option, Some, None}
use Rattle.choice.specs.declared.best.BestRoute.{BestRoute}
use Rattle.choice.specs.Keys.{keys_in, keys_of, listed}
use Rattle.choice.specs.Bests.{with, met, meets}

-- The candidate b as the best of n, of the class m; and the best of candidates of one class.
unfoldable pub lead : ℕ → ℕ → Numbered → Option BestRoute
lead n m b = Some (with n m b.index (keys_of b.candidate))

unfoldable pub best_of : ℕ → List Numbered → Option BestRoute
best_of m [] = None
best_of m (r ∷ l) = lead (length (r ∷ l)) m (foldl meet r l)

-- It meets one of a higher class, of a lower, of its own.
module _ (n m : ℕ) (b x : Numbered) where
  lead_higher : (j : ℕ) → m < j → meets (lead n m b) j x.index (keys_of x.candidate) ≡ lead n m b
  unfolding lead meets met with
  lead_higher j h = rw (lt-ltb m j h) refl

  lead_lower : (j : ℕ) → j < m → meets (lead n m b) j x.index (keys_of x.candidate) ≡ lead 1 j x
  unfolding lead meets met with
  lead_lower j h = rw (le-ltb m j (omega arith), lt-ltb j m h) refl

  lead-same : meets (lead n m b) m x.index (keys_of x.candidate) ≡ lead (n + 1) m (meet b x)
  unfolding lead meets met with meet keys keys_in listed
  lead-same = rw (le-ltb m m (omega arith)) (go (before (keys x.candidate) (keys b.candidate)))
    where
      go : (t : Bool)
          → Some (cond t (with (n + 1) m x.index (keys_of x.candidate)) (with (n + 1) m b.index (keys_of b.candidate)))
          ≡ Some (with (n + 1) m (cond t x b).index (keys_of (cond t x b).candidate))
      go true = refl
      go false = refl

-- What is left of none is none, and what is left of some is chosen from them.
pub best_none : (m : ℕ) (l : List Numbered) → best_of m l ≡ None → is_empty l ≡ true
unfolding best_of lead is_empty
best_none m [] e = refl
best_none m (r ∷ l) e = let z : ◌≡◌ {A = ℕ} 0 1 = cc in absurd (omega arith)

pub best_some : (m : ℕ) (l : List Numbered) {b : BestRoute} → best_of m l ≡ Some b
    → (is_empty l ≡ false) × (record { index = b.index; left = b.left } ≡ chosen_from l)
unfolding best_of lead is_empty chosen_from with
best_some m [] e = let z : ◌≡◌ {A = ℕ} 0 1 = cc in absurd (omega arith)
best_some m (r ∷ l) {b} e =
    let q : b ≡ with (length (r ∷ l)) m (foldl meet r l).index (keys_of (foldl meet r l).candidate) = cc in
    (refl, rw q refl)

-- ---- Candidates of any class, where k gives the class of each

module _ (k : Numbered → ℕ) where
  -- The lowest of m and their classes, and those of one class.
  unfoldable pub low : ℕ → List Numbered → ℕ
  low m l = foldl min m (map k l)

  unfoldable pub of_class : ℕ → List Numbered → List Numbered
  of_class n l = keep (λ r. eqb (k r) n) l

  -- The best route so far with all of them.
  unfoldable pub met_all : Option BestRoute → List Numbered → Option BestRoute
  met_all s l = foldl (λ s x. meets s (k x) x.index (keys_of x.candidate)) s l

  low_below : (l : List Numbered) (m : ℕ) → low m l ≤ m
  unfolding low
  low_below [] m = omega arith
  low_below (y ∷ l) m = omega (arith, low_below l (min m (k y)), min-le_left m (k y))

  -- What the best route so far comes to: one of a lower class takes its place, else those of its own class meet it.
  abbrev Leads : List Numbered → Type 0
  Leads l = (n m : ℕ) (b : Numbered) → met_all (lead n m b) l
      ≡ cond (ltb (low m l) m) (best_of (low m l) (of_class (low m l) l)) (lead (n + length (of_class m l)) m (foldl meet b (of_class m l)))

  -- The first candidate is the best so far.
  lead-first : (l : List Numbered) → Leads l → (x : Numbered) → met_all (lead 1 (k x) x) l ≡ best_of (low (k x) l) (of_class (low (k x) l) (x ∷ l))
  unfolding of_class keep
  lead-first l ih x = ih 1 (k x) x ∙ go (ltb (low (k x) l) (k x)) refl
    where
      go : (t : Bool) → ltb (low (k x) l) (k x) ≡ t
          → cond t (best_of (low (k x) l) (of_class (low (k x) l) l)) (lead (1 + length (of_class (k x) l)) (k x) (foldl meet x (of_class (k x) l)))
          ≡ best_of (low (k x) l) (cond (eqb (k x) (low (k x) l)) (x ∷ of_class (low (k x) l) l) (of_class (low (k x) l) l))
      go true e = rw (ne_eqb (k x) (low (k x) l) (λ z. omega (arith, z, ltb-true (low (k x) l) (k x) e))) refl
      go false e =
          let q : low (k x) l ≡ k x = omega (arith, ltb-false (low (k x) l) (k x) e, low_below l (k x)) in
          let s : 1 + length (of_class (k x) l) ≡ suc (length (of_class (k x) l)) = omega arith in
          rw (q, eq-eqb (k x) (k x) refl, s) (unfold best_of in refl)

  -- The same for one candidate more, where j is the lower of m and its class.
  abbrev At_least : (n m : ℕ) (b x : Numbered) (l : List Numbered) (j : ℕ) → Type 0
  At_least n m b x l j = met_all (meets (lead n m b) (k x) x.index (keys_of x.candidate)) l
      ≡ cond (ltb (low j l) m) (best_of (low j l) (of_class (low j l) (x ∷ l))) (lead (n + length (of_class m (x ∷ l))) m (foldl meet b (of_class m (x ∷ l))))

  leads : (l : List Numbered) → Leads l
  unfolding met_all low of_class keep
  leads [] n m b = rw (le-ltb m m (omega arith), add-zero n) refl
  leads (x ∷ l) n m b = go (ltb m (k x)) refl (ltb (k x) m) refl (leads l)
    where
      go : (higher : Bool) → ltb m (k x) ≡ higher → (lower : Bool) → ltb (k x) m ≡ lower → Leads l
          → At_least n m b x l (min m (k x))
      go true e lower f ih =
          let h = ltb-true m (k x) e in
          let w : min m (k x) ≡ m = min-eq_left {n = m} {m = k x} (omega (arith, h)) in
          subst (λ (j : ℕ). At_least n m b x l j) (sym w)
          (rw (ne_eqb (k x) m (λ z. omega (arith, z, h)), ne_eqb (k x) (low m l) (λ z. omega (arith, z, h, low_below l m)), lead_higher n m b x (k x) h)
          (ih n m b))
      go false e true f ih =
          let h = ltb-true (k x) m f in
          let w : min m (k x) ≡ k x = min-eq_right {n = k x} {m = m} (omega (arith, h)) in
          subst (λ (j : ℕ). At_least n m b x l j) (sym w)
          (rw (lt-ltb (low (k x) l) m (omega (arith, h, low_below l (k x))), lead_lower n m b x (k x) h)
          (lead-first l ih x))
      go false e false f ih =
          let q : k x ≡ m = omega (arith, ltb-false m (k x) e, ltb-false (k x) m f) in
          let s : n + suc (length (of_class m l)) ≡ n + 1 + length (of_class m l) = omega arith in
          let w : min m (k x) ≡ m = min-eq_left {n = m} {m = k x} (omega (arith, q)) in
          subst (λ (j : ℕ). At_least n m b x l j) (sym w) (rw (q, eq-eqb m m refl, lead-same n m b x, ih (n + 1) m (meet b x), s)
          (pick (ltb (low m l) m) refl))
        where
          pick : (t : Bool) → ltb (low m l) m ≡ t
              → cond t (best_of (low m l) (of_class (low m l) l)) (lead (n + 1 + length (of_class m l)) m (foldl meet (meet b x) (of_class m l)))
              ≡ cond t (best_of (low m l) (cond (eqb m (low m l)) (x ∷ of_class (low m l) l) (of_class (low m l) l))) (lead (n + 1 + length (of_class m l)) m (foldl meet (meet b x) (of_class m l)))
          pick true z = rw (ne_eqb m (low m l) (λ y. omega (arith, y, ltb-true (low m l) m z))) refl
          pick false z = refl

  -- From no route on, where no class is above t.
  pub met_all_lem : (t : ℕ) → ((r : Numbered) → k r ≤ t) → (l : List Numbered) → met_all None l ≡ best_of (low t l) (of_class (low t l) l)
  unfolding met_all low of_class keep meets lead best_of
  met_all_lem t top [] = refl
  met_all_lem t top (x ∷ l) = lead-first l (leads l) x ∙ ap (λ (m : ℕ). best_of (low m l) (of_class (low m l) (x ∷ l))) (sym (min-eq_right {n = k x} {m = t} (top x)))
