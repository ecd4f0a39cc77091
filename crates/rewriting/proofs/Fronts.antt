-- A list of attributes in two at the first whose type passes a test: what stands before it, and the rest.
use mathlib.Core.Path.{◌≡◌, refl}
use mathlib.Core.Bool.{Bool, true, false, cond}
use mathlib.Core.List.{List, [], ◌∷◌, ◌++◌, flat_map}
use Prim.Native.Nat.{ℕ, ◌+◌}
use native.Mathlib.Omega.{arith}
use lib.Dec.{ltb}
use lib.ListN.{length}
use Rattle.rules.specs.Attributes.{Attribute, encode, encode_one}
use Rattle.rules.specs.Changes.{insert}
use Rattle.rules.proofs.Parts.{size, size_cons}
use Rattle.attributes.specs.Layout.{place}

unfoldable pub front : (ℕ → Bool) → List Attribute → List Attribute
front p [] = []
front p (a ∷ l) = cond (p a.type) [] (a ∷ front p l)

unfoldable pub back : (ℕ → Bool) → List Attribute → List Attribute
back p [] = []
back p (a ∷ l) = cond (p a.type) (a ∷ l) (back p l)

module _ (p : ℕ → Bool) where
  pub front-back : (l : List Attribute) → front p l ++ back p l ≡ l
  unfolding front back
  front-back [] = refl
  front-back (a ∷ l) = go (p a.type) (front-back l)
    where
      go : (x : Bool) → front p l ++ back p l ≡ l → cond x [] (a ∷ front p l) ++ cond x (a ∷ l) (back p l) ≡ a ∷ l
      go true ih = refl
      go false ih = rw ih refl

  -- The place of the first that passes is where the front ends.
  pub front-size : (l : List Attribute) → size (front p l) ≡ place p l
  unfolding front place encode flat_map
  front-size [] = refl
  front-size (a ∷ l) = go (p a.type) (front-size l)
    where
      go : (x : Bool) → size (front p l) ≡ place p l → size (cond x [] (a ∷ front p l)) ≡ cond x 0 (length (encode_one a) + place p l)
      go true ih = refl
      go false ih = omega (arith, size_cons a (front p l))

-- A new attribute goes between them.
pub insert-between : (new : Attribute) (l : List Attribute) → insert new l ≡ front (ltb new.type) l ++ (new ∷ back (ltb new.type) l)
unfolding insert front back
insert-between new [] = refl
insert-between new (a ∷ l) = go (ltb new.type a.type) (insert-between new l)
  where
    go : (x : Bool) → insert new l ≡ front (ltb new.type) l ++ (new ∷ back (ltb new.type) l)
        → cond x (new ∷ a ∷ l) (a ∷ insert new l) ≡ cond x [] (a ∷ front (ltb new.type) l) ++ (new ∷ cond x (a ∷ l) (back (ltb new.type) l))
    go true ih = refl
    go false ih = rw ih refl
