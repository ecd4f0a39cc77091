-- The state that tags tell, community by community.
use Prim.Native.Nat.{ℕ, ◌≤◌, ◌<◌, max}
use mathlib.Core.Path.{◌≡◌, refl, sym, ap, ◌∙◌}
use mathlib.Core.Bool.{Bool, true, false, cond}
use mathlib.Core.List.{List, [], ◌∷◌, map, foldl}
use native.Mathlib.Nat.{max-eq_left, max-eq_right}
use native.Mathlib.Omega.{arith}
use borrow.Author.Tests.{ltb-true, ltb-false, leb-true, le-leb, lt-leb, ne_eqb}
use lib.Dec.{leb, ltb}
use lib.ListN.{length, get_or}
use Rattle.rules.specs.Bytes.{keep}
use Rattle.rules.specs.Settings.{unavailable}
use Rattle.rules.specs.Changes.{is_tag, is_erroneous, communities}
use Rattle.rules.specs.Origin.{tag_values, greatest, tag_state}
use Rattle.rules.proofs.Lists.{and_left, and_right}
use Rattle.communities.specs.Received.{greater, with_value_of, with_community}
use Rattle.communities.proofs.Walked.{Walked, communities-next, communities-end}

-- A state is told already: the greatest of it and the values up to 2.
greater-told : (state x : ℕ) → state ≤ 2 → greater state x ≡ max state x
unfolding greater
greater-told state x h = rw (ne_eqb state 3 (λ z. omega arith)) (go (ltb state x) refl)
  where
    go : (b : Bool) → ltb state x ≡ b → cond b x state ≡ max state x
    go true e = sym (max-eq_right (omega (arith, ltb-true state x e)))
    go false e = sym (max-eq_left (ltb-false state x e))

told_more : (l : List ℕ) (state : ℕ) → state ≤ 2 → foldl with_value_of state l ≡ foldl max state (keep (λ n. leb n 2) l)
unfolding keep with_value_of
told_more [] state h = refl
told_more (x ∷ l) state h = go (leb x 2) refl (told_more l (max state x)) (told_more l state)
  where
    go : (b : Bool) → leb x 2 ≡ b
        → (max state x ≤ 2 → foldl with_value_of (max state x) l ≡ foldl max (max state x) (keep (λ n. leb n 2) l))
        → (state ≤ 2 → foldl with_value_of state l ≡ foldl max state (keep (λ n. leb n 2) l))
        → foldl with_value_of (cond b (greater state x) state) l ≡ foldl max state (cond b (x ∷ keep (λ n. leb n 2) l) (keep (λ n. leb n 2) l))
    go true e p q = rw (greater-told state x h) (p (omega (arith, leb-true x 2 e)))
    go false e p q = q h

told-first : (l : List ℕ) → foldl with_value_of unavailable l ≡ tag_state l
unfolding tag_state greatest keep with_value_of greater
told-first [] = refl
told-first (x ∷ l) = go (leb x 2) refl (told-first l)
  where
    go : (b : Bool) → leb x 2 ≡ b → foldl with_value_of unavailable l ≡ greatest (keep (λ n. leb n 2) l)
        → foldl with_value_of (cond b x unavailable) l ≡ greatest (cond b (x ∷ keep (λ n. leb n 2) l) (keep (λ n. leb n 2) l))
    go true e p = told_more l x (leb-true x 2 e)
    go false e p = p

-- Communities that are no tags tell nothing.
tags_alone : (l : List (List ℕ)) (state : ℕ) → foldl with_community state l ≡ foldl with_value_of state (map (λ c. get_or c 7 0) (keep is_tag l))
unfolding keep with_community
tags_alone [] state = refl
tags_alone (c ∷ l) state = go (is_tag c) (tags_alone l)
  where
    go : (b : Bool) → ((s : ℕ) → foldl with_community s l ≡ foldl with_value_of s (map (λ c. get_or c 7 0) (keep is_tag l)))
        → foldl with_community (cond b (with_value_of state (get_or c 7 0)) state) l ≡ foldl with_value_of state (map (λ c. get_or c 7 0) (cond b (c ∷ keep is_tag l) (keep is_tag l)))
    go true p = p (with_value_of state (get_or c 7 0))
    go false p = p state

-- One community more, by what it is: a tag above 2, a tag up to 2, no tag.
module _ (state : ℕ) (c : List ℕ) where
  pub with-erroneous : is_erroneous c ≡ true → with_community state c ≡ state
  unfolding is_erroneous with_community with_value_of
  with-erroneous h =
      rw (and_left (is_tag c) (ltb 2 (get_or c 7 0)) h, lt-leb (get_or c 7 0) 2 (ltb-true 2 (get_or c 7 0) (and_right (is_tag c) (ltb 2 (get_or c 7 0)) h))) refl

  pub with_tag : is_erroneous c ≡ false → is_tag c ≡ true → with_community state c ≡ greater state (get_or c 7 0)
  unfolding is_erroneous with_community with_value_of
  with_tag h t = let l : ltb 2 (get_or c 7 0) ≡ false = rw t at h in rw (t, le-leb (get_or c 7 0) 2 (ltb-false 2 (get_or c 7 0) l)) refl

  pub with-other : is_tag c ≡ false → with_community state c ≡ state
  unfolding with_community
  with-other t = rw t refl

-- Nothing is read yet, a community is read, nothing is left to read.
pub tags_start : (v : List ℕ) → foldl with_community unavailable (communities v) ≡ tag_state (tag_values v)
unfolding tag_values
tags_start v = tags_alone (communities v) unavailable ∙ told-first (map (λ c. get_or c 7 0) (keep is_tag (communities v)))

pub tags-next : (state : ℕ) {left c others : List ℕ} → Walked left c others
    → foldl with_community state (communities left) ≡ foldl with_community (with_community state c) (communities others)
tags-next state w = ap (foldl with_community state) (communities-next w)

pub tags-end : (state : ℕ) (left : List ℕ) → length left < 8 → foldl with_community state (communities left) ≡ state
tags-end state left h = ap (foldl with_community state) (communities-end left h)
