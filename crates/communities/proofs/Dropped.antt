-- The communities that are kept of what is left of a value: one community at a time, and none where fewer than 8 bytes are left.
use Prim.Native.Nat.{ℕ, ◌+◌, ◌<◌}
use mathlib.Core.Path.{◌≡◌, refl, ap, ◌∙◌}
use mathlib.Core.Bool.{Bool, true, false, cond, not}
use mathlib.Core.List.{List, [], ◌∷◌, ◌++◌, flatten}
use native.Mathlib.Omega.{arith}
use lib.ListN.{length, length-append}
use Rattle.rules.specs.Bytes.{keep}
use Rattle.rules.specs.Changes.{communities, drop_from}
use Rattle.communities.specs.Tags.{kept}
use Rattle.communities.proofs.Walked.{Walked, communities-next, communities-end}

module _ (dropped : List ℕ → Bool) where
  pub kept-none : (c : List ℕ) → dropped c ≡ true → kept dropped c ≡ []
  unfolding kept
  kept-none c h = rw h

  pub kept_whole : (c : List ℕ) → dropped c ≡ false → kept dropped c ≡ c
  unfolding kept
  kept_whole c h = rw h

  -- A community in front of others.
  flatten_front : (c : List ℕ) (l : List (List ℕ)) → flatten (keep (λ c. not (dropped c)) (c ∷ l)) ≡ kept dropped c ++ flatten (keep (λ c. not (dropped c)) l)
  unfolding keep kept flatten
  flatten_front c l = go (dropped c)
    where
      go : (x : Bool) → flatten (cond (not x) (c ∷ keep (λ c. not (dropped c)) l) (keep (λ c. not (dropped c)) l)) ≡ cond x [] c ++ flatten (keep (λ c. not (dropped c)) l)
      go true = refl
      go false = refl

  -- A community, and those after it.
  pub left_step : {left c others : List ℕ} → Walked left c others → drop_from dropped left ≡ kept dropped c ++ drop_from dropped others
  unfolding drop_from
  left_step {left} {c} {others} w =
      ap (λ (l : List (List ℕ)). flatten (keep (λ c. not (dropped c)) l)) (communities-next w) ∙ flatten_front c (communities others)

  -- Too few bytes for one more.
  pub left_end : (left : List ℕ) → length left < 8 → drop_from dropped left ≡ []
  unfolding drop_from keep flatten
  left_end left h = ap (λ (l : List (List ℕ)). flatten (keep (λ c. not (dropped c)) l)) (communities-end left h)

  -- The same of how many bytes are left.
  pub left-count : (n : ℕ) {left c others : List ℕ} {k total : ℕ} → Walked left c others → n + length (drop_from dropped left) ≡ total
      → k ≡ n + length (kept dropped c) → k + length (drop_from dropped others) ≡ total
  left-count n {left} {c} {others} w e q = omega (arith, ap length (left_step w), length-append (kept dropped c) (drop_from dropped others))
