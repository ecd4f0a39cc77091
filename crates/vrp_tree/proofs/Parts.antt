-- Parts and their numbers: a part more, the parts of a record more, how many there are.
use mathlib.Core.Path.{◌≡◌, refl, sym, ◌∙◌}
use mathlib.Core.Bool.{Bool, true, false, cond}
use mathlib.Core.List.{List, [], ◌∷◌}
use Prim.Native.Nat.{ℕ, zero, suc, ◌+◌, ◌/◌, ◌^◌, ◌≤◌, ◌<◌}
use native.Mathlib.Numerals.{add-one}
use native.Mathlib.Omega.{arith}
use borrow.Author.Tests.{eq-eqb, ne_eqb, eqb-true}
use lib.Dec.{eqb}
use lib.ListN.{length}
use Rattle.rules.specs.Origin.{Vrp}
use Rattle.vrp_tree.specs.Tree.{own, spot, added, grown, parts_of, turned}

pub spot-le : (ks : List ℕ) (y : ℕ) → spot ks y ≤ length ks
unfolding spot
spot-le [] y = omega arith
spot-le (x ∷ ks) y = go (eqb x y) (spot-le ks y)
  where
    go : (b : Bool) → spot ks y ≤ length ks → cond b (suc (length ks)) (spot ks y) ≤ suc (length ks)
    go true h = omega arith
    go false h = omega arith

pub spot-one : (ks : List ℕ) (x y : ℕ) → 0 < spot ks x → spot ks x ≡ spot ks y → x ≡ y
unfolding spot
spot-one [] x y h e = absurd (omega arith)
spot-one (z ∷ ks) x y h g = go (eqb z x) refl (eqb z y) refl (spot-one ks x y) h g
  where
    go : (b : Bool) → eqb z x ≡ b → (c : Bool) → eqb z y ≡ c → (0 < spot ks x → spot ks x ≡ spot ks y → x ≡ y)
        → 0 < cond b (suc (length ks)) (spot ks x) → cond b (suc (length ks)) (spot ks x) ≡ cond c (suc (length ks)) (spot ks y) → x ≡ y
    go true e true f ih h g = sym (eqb-true _ _ e) ∙ eqb-true _ _ f
    go true e false f ih h g = absurd (omega (arith, spot-le ks y))
    go false e true f ih h g = absurd (omega (arith, spot-le ks x))
    go false e false f ih h g = ih h g

pub spot-new : (ks : List ℕ) (x : ℕ) → spot (x ∷ ks) x ≡ length ks + 1
unfolding spot
spot-new ks x = rw (eq-eqb x x refl) (sym (add-one _))

pub spot-old : (ks : List ℕ) (x y : ℕ) → (x ≡ y → ⊥) → spot (x ∷ ks) y ≡ spot ks y
unfolding spot
spot-old ks x y ne = rw (ne_eqb x y ne)

pub spot-more : (ks : List ℕ) (y x : ℕ) → 0 < spot ks x → 0 < spot (y ∷ ks) x
unfolding spot
spot-more ks y x h = go (eqb y x)
  where
    go : (b : Bool) → 0 < cond b (suc (length ks)) (spot ks x)
    go true = omega arith
    go false = h

pub added_new : (ks : List ℕ) (x : ℕ) → spot ks x ≡ 0 → added ks x ≡ x ∷ ks
unfolding added
added_new ks x e = rw (eq-eqb _ _ e)

pub added-old : (ks : List ℕ) (x : ℕ) → 0 < spot ks x → added ks x ≡ ks
unfolding added
added-old ks x e = rw (ne_eqb (spot ks x) 0 (λ (f : spot ks x ≡ 0). omega arith))

added-le : (ks : List ℕ) (x : ℕ) → (length ks ≤ length (added ks x)) × (length (added ks x) ≤ length ks + 1)
unfolding added
added-le ks x = go (eqb (spot ks x) 0)
  where
    go : (b : Bool) → (length ks ≤ length (cond b (x ∷ ks) ks)) × (length (cond b (x ∷ ks) ks) ≤ length ks + 1)
    go true = (omega arith, omega arith)
    go false = (omega arith, omega arith)

pub grown-le : (left k : ℕ) (ks : List ℕ) → length ks ≤ length (grown left k ks)
unfolding grown
grown-le zero k ks = omega arith
grown-le (suc left) k ks = omega (arith, grown-le left k (added ks (k / 2 ^ left)), added-le ks (k / 2 ^ left))

pub grown-more : (left k : ℕ) (ks : List ℕ) → length (grown left k ks) ≤ length ks + left
unfolding grown
grown-more zero k ks = omega arith
grown-more (suc left) k ks = omega (arith, grown-more left k (added ks (k / 2 ^ left)), added-le ks (k / 2 ^ left))

-- Records more leave at least as many parts.
pub parts-le : (w : ℕ) (l vs : List Vrp) → length (parts_of w vs) ≤ length (parts_of w (turned l vs))
unfolding parts_of turned
parts-le w [] vs = omega arith
parts-le w (v ∷ l) vs = omega (arith, parts-le w l (v ∷ vs), grown-le v.len (own w v) (parts_of w vs))

pub turned-length : {A : Type 0} (l vs : List A) → length (turned l vs) ≡ length l + length vs
unfolding turned
turned-length [] vs = omega arith
turned-length (x ∷ l) vs = omega (arith, turned-length l (x ∷ vs))

pub parts-some : (w : ℕ) (vs : List Vrp) → 0 < length (parts_of w vs)
unfolding parts_of
parts-some w [] = omega arith
parts-some w (v ∷ vs) = omega (arith, parts-some w vs, grown-le v.len (own w v) (parts_of w vs))
