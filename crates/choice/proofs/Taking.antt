-- Removals, and all candidates in their sequence: the best route so far at their end is the one to choose.
use Prim.Native.Nat.{ℕ, suc, ◌+◌, ◌≤◌, min}
use mathlib.Core.Path.{◌≡◌, refl, sym, ap, ◌∙◌}
use mathlib.Core.Bool.{Bool, true, false, not, cond, ◌&&◌, ◌||◌}
use mathlib.Core.List.{List, [], ◌∷◌, map, foldl}
use native.Mathlib.Omega.{arith}
use lib.Dec.{ltb, eqb}
use lib.ListN.{length, get_or}
use Rattle.rules.specs.Bytes.{is_empty, keep}
use Rattle.rules.specs.Settings.{prioritise, drop_invalid, invalid}
use Rattle.rules.specs.Attributes.{attributes, has_otc}
use Rattle.rules.specs.Choice.{Candidate, Numbered, numbered_from, without_otc, not_from, not_invalid, class, best_class, remaining, before, chosen_from}
use Rattle.attributes.specs.declared.layout.Layout.{Layout}
use Rattle.choice.specs.declared.keys.Keys.{Keys}
use Rattle.std.specs.Prelude.{Option, Some, None}
use Rattle.choice.specs.declared.best.BestRoute.{BestRoute}
use Rattle.choice.specs.Keys.{Reads, keys_of, listed}
use Rattle.choice.specs.Bests.{is_removed, rank, with, met, meets, left_in, taken}
use Rattle.choice.proofs.Candidates.{otc-found}
use Rattle.choice.proofs.Ordering.{rank-top}
use Rattle.choice.proofs.Picking.{best_of, low, of_class, met_all, best_none, best_some, met_all_lem}

-- A bound of each of two holds of the one that a test picks.
either : {A : Type 0} (f : A → ℕ) (x : Bool) {a b : A} {n : ℕ} → f a ≤ n → f b ≤ n → f (cond x a b) ≤ n
either f true p q = p
either f false p q = q

module _ (mode client : ℕ) where
  -- One candidate, which the code removes, or meets with its class and keys.
  module _ (best : Option BestRoute) (index : ℕ) (c : Candidate) {l : Layout} (w : Reads c.block l) {x : Bool}
      (e : x ≡ is_removed mode client (ltb l.otc (length c.block)) c.state c.address) where
    pub taken_removed : x ≡ true → best ≡ taken mode client best index c
    unfolding taken
    taken_removed q = rw (← otc-found w, sym e ∙ q) refl

    module _ (q : x ≡ false) {n : ℕ} {k : Keys} (u : n ≡ rank mode c.state) (v : k ≡ keys_of c) where
      taken-met : meets best n index k ≡ taken mode client best index c
      unfolding taken
      taken-met = rw (← otc-found w, sym e ∙ q, u, v) refl

      pub taken-first : best ≡ None → Some (with 1 n index k) ≡ taken mode client best index c
      unfolding meets
      taken-first z = sym (ap (λ (b : Option BestRoute). meets b n index k) z) ∙ taken-met

      pub taken_next : {b r : BestRoute} → best ≡ Some b → r ≡ met b n index k → Some r ≡ taken mode client best index c
      unfolding meets
      taken_next z y = ap Some y ∙ sym (ap (λ (b : Option BestRoute). meets b n index k) z) ∙ taken-met

  -- ---- What is left but for the classes

  stays : Numbered → Bool
  stays r = not (is_removed mode client (has_otc (attributes r.candidate.block)) r.candidate.state r.candidate.address)

  kept-is : (l : List Numbered) → not_invalid mode (not_from client (without_otc l)) ≡ keep stays l
  unfolding not_invalid not_from without_otc keep stays is_removed
  kept-is [] = none (eqb mode drop_invalid)
    where
      none : (drops : Bool) → cond {A = List Numbered} drops [] [] ≡ []
      none true = refl
      none false = refl
  kept-is (x ∷ l) =
      go (has_otc (attributes x.candidate.block)) (eqb x.candidate.address client) (eqb mode drop_invalid) (eqb x.candidate.state invalid) refl refl (kept-is l)
    where
      valids : List Numbered → List Numbered
      valids m = keep (λ r. not (eqb r.candidate.state invalid)) m

      go : (otc own drops bad : Bool) → eqb x.candidate.address client ≡ own → eqb x.candidate.state invalid ≡ bad
          → cond drops (valids (not_from client (without_otc l))) (not_from client (without_otc l)) ≡ keep stays l
          → cond drops (valids (not_from client (cond (not otc) (x ∷ without_otc l) (without_otc l)))) (not_from client (cond (not otc) (x ∷ without_otc l) (without_otc l)))
          ≡ cond (not (otc || own || (drops && bad))) (x ∷ keep stays l) (keep stays l)
      go true own drops bad f e ih = ih
      go false true drops bad f e ih = rw f ih
      go false false true true f e ih = rw (f, e) ih
      go false false true false f e ih = rw (f, e) (ap (λ (m : List Numbered). x ∷ m) ih)
      go false false false bad f e ih = rw f (ap (λ (m : List Numbered). x ∷ m) ih)

  -- ---- The classes of what is left

  class_of : Numbered → ℕ
  class_of r = rank mode r.candidate.state

  top : (r : Numbered) → class_of r ≤ 2
  unfolding class_of
  top r = rank-top mode r.candidate.state

  zeros : (l : List Numbered) → foldl min 0 (map (λ (r : Numbered). 0) l) ≡ 0
  zeros [] = refl
  zeros (x ∷ l) = zeros l

  all_same : (l : List Numbered) → keep (λ r. eqb 0 0) l ≡ l
  unfolding keep
  all_same [] = refl
  all_same (x ∷ l) = ap (λ (m : List Numbered). x ∷ m) (all_same l)

  best_left : (l : List Numbered) → of_class class_of (low class_of 2 l) l ≡ best_class mode l
  unfolding of_class low best_class class_of rank class
  best_left l = go (eqb mode prioritise) l
    where
      go : (b : Bool) (l : List Numbered)
          → keep (λ r. eqb (cond b (get_or (0 ∷ 1 ∷ 2 ∷ 1 ∷ []) r.candidate.state 2) 0) (foldl min 2 (map (λ r. cond b (get_or (0 ∷ 1 ∷ 2 ∷ 1 ∷ []) r.candidate.state 2) 0) l))) l
          ≡ cond b (keep (λ r. eqb (get_or (0 ∷ 1 ∷ 2 ∷ 1 ∷ []) r.candidate.state 2) (foldl min 2 (map class l))) l) l
      go true l = refl
      go false [] = unfold keep in refl
      go false (x ∷ l) = rw (zeros l) (all_same (x ∷ l))

  -- ---- All candidates, in their sequence

  -- The best route so far with all of some candidates more.
  unfoldable pub taken_all : Option BestRoute → List Numbered → Option BestRoute
  taken_all s l = foldl (λ s x. taken mode client s x.index x.candidate) s l

  pub taken-on : (s : Option BestRoute) (i : ℕ) (c : Candidate) (cs : List Candidate) {j : ℕ} → j ≡ i + 1
      → taken_all s (numbered_from i (c ∷ cs)) ≡ taken_all (taken mode client s i c) (numbered_from j cs)
  unfolding taken_all numbered_from
  taken-on s i c cs {j} e = let n : j ≡ suc i = omega arith in rw n refl

  taken-kept : (l : List Numbered) (s : Option BestRoute) → taken_all s l ≡ met_all class_of s (keep stays l)
  unfolding taken_all met_all taken keep stays class_of
  taken-kept [] s = refl
  taken-kept (x ∷ l) s =
      go (is_removed mode client (has_otc (attributes x.candidate.block)) x.candidate.state x.candidate.address) (taken-kept l)
    where
      go : (b : Bool) → ((s : Option BestRoute) → taken_all s l ≡ met_all class_of s (keep stays l))
          → taken_all (cond b s (meets s (class_of x) x.index (keys_of x.candidate))) l ≡ met_all class_of s (cond (not b) (x ∷ keep stays l) (keep stays l))
      go true ih = ih s
      go false ih = ih (meets s (class_of x) x.index (keys_of x.candidate))

  taken-remaining : (cs : List Candidate)
      → taken_all None (numbered_from 0 cs) ≡ best_of (low class_of 2 (keep stays (numbered_from 0 cs))) (remaining mode client cs)
  unfolding remaining
  taken-remaining cs =
      let l = keep stays (numbered_from 0 cs) in
      taken-kept (numbered_from 0 cs) None ∙ met_all_lem class_of 2 top l ∙ rw (kept-is (numbered_from 0 cs), best_left l) refl

  pub taken_none : (cs : List Candidate) → None ≡ taken_all None (numbered_from 0 cs) → is_empty (remaining mode client cs) ≡ true
  taken_none cs e = best_none _ (remaining mode client cs) (sym (e ∙ taken-remaining cs))

  pub taken-some : (cs : List Candidate) {b : BestRoute} → Some b ≡ taken_all None (numbered_from 0 cs)
      → (is_empty (remaining mode client cs) ≡ false) × (record { index = b.index; left = b.left } ≡ chosen_from (remaining mode client cs))
  taken-some cs e = best_some _ (remaining mode client cs) (sym (e ∙ taken-remaining cs))

  -- One candidate more adds at most one to those left.
  pub taken-left : (s : Option BestRoute) (i : ℕ) (c : Candidate) → left_in (taken mode client s i c) ≤ left_in s + 1
  unfolding taken meets met left_in with
  taken-left None i c = either left_in (is_removed mode client _ _ _) (omega arith) (omega arith)
  taken-left (Some b) i c =
      either left_in (is_removed mode client _ _ _) (omega arith)
      (either left (ltb b.rank _) (omega arith) (either left (ltb _ b.rank) (omega arith) (either left (before _ (listed b.keys)) (omega arith) (omega arith))))
    where
      left : BestRoute → ℕ
      left r = r.left
