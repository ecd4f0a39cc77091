-- How many tags are thrown out: of one community, and of what is left of a value.
use Prim.Native.Nat.{ℕ, ◌+◌, ◌<◌}
use mathlib.Core.Path.{◌≡◌, refl, ap, ◌∙◌}
use mathlib.Core.Bool.{Bool, true, false, cond}
use mathlib.Core.List.{List, ◌∷◌}
use native.Mathlib.Omega.{arith}
use lib.ListN.{length}
use Rattle.rules.specs.Bytes.{keep}
use Rattle.rules.specs.Changes.{communities, is_tag, is_erroneous, thrown_out}
use Rattle.communities.specs.Tags.{drop_test}
use Rattle.communities.specs.Walks.{ThrownMore}
use Rattle.communities.proofs.Walked.{Walked, communities-next, communities-end}
use Rattle.communities.specs.declared.tags.Dropping.{Dropping}
use Rattle.communities.specs.declared.tags.Dropping.TheVariants.{AllTags, ErroneousTags}

-- ---- One community

module _ (c : List ℕ) where
  -- Only a tag is thrown out, and only what is dropped.
  pub other_unthrown : is_tag c ≡ false → is_erroneous c ≡ false
  unfolding is_erroneous
  other_unthrown h = rw h refl

  pub kept_unthrown : (dropping : Dropping) → drop_test dropping c ≡ false → is_erroneous c ≡ false
  unfolding drop_test
  kept_unthrown AllTags h = other_unthrown h
  kept_unthrown ErroneousTags h = h

  module _ (n : ℕ) where
    pub thrown-one : is_erroneous c ≡ true → ThrownMore n c (n + 1)
    thrown-one h = record { is = rw h refl; most = omega arith }

    pub thrown-none : is_erroneous c ≡ false → ThrownMore n c n
    thrown-none h = record { is = rw h (omega arith); most = omega arith }

-- ---- What is left of a value

-- A community in front of others.
counted-front : (c : List ℕ) (l : List (List ℕ)) → length (keep is_erroneous (c ∷ l)) ≡ cond (is_erroneous c) 1 0 + length (keep is_erroneous l)
unfolding keep
counted-front c l = go (is_erroneous c)
  where
    go : (x : Bool) → length (cond x (c ∷ keep is_erroneous l) (keep is_erroneous l)) ≡ cond x 1 0 + length (keep is_erroneous l)
    go true = omega arith
    go false = omega arith

-- A community, and those after it, where n are counted so far.
pub thrown-count : {left c others : List ℕ} {n k total : ℕ} → Walked left c others → n + thrown_out left ≡ total → ThrownMore n c k → k + thrown_out others ≡ total
unfolding thrown_out
thrown-count {left} {c} {others} w e q =
    omega (arith, q.is, ap (λ (l : List (List ℕ)). length (keep is_erroneous l)) (communities-next w) ∙ counted-front c (communities others))

-- Too few bytes for one more.
pub thrown-end : (left : List ℕ) → length left < 8 → thrown_out left ≡ 0
unfolding thrown_out keep
thrown-end left h = ap (λ (l : List (List ℕ)). length (keep is_erroneous l)) (communities-end left h)
