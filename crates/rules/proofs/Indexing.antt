-- An index in use (02, Q-7): every look-up in it gives the plain scan's state for the table it was built from, records added since included,
-- and the nodes on the route's prefix.
use Prim.Native.Nat.{ℕ}
use mathlib.Core.Path.{◌≡◌, refl, sym, ap, subst}
use mathlib.Core.Bool.{Bool, cond, and-not_self}
use mathlib.Core.List.{List, [], ◌∷◌}
use mathlib.Core.Option.{none, some}
use lib.Dec.{eqb}
use Rattle.rules.specs.Answers.{Answer}
use Rattle.rules.specs.Bytes.{exists}
use Rattle.rules.specs.Settings.{valid, not_found, invalid}
use Rattle.rules.specs.Origin.{Vrp, vrps, covers, same_as, matches, state_in}
use Rattle.rules.specs.Index.{Finding, look_up, LooksUp, Kept, built, inserted, refused_one}

module _ (Holds : ℕ → List ℕ → List ℕ → Type 0) (w : ℕ) where
  kept-holds : {table memory : List ℕ} → Kept Holds w table memory → Holds w table memory
  kept-holds (built b n e) = b.held n e
  kept-holds (inserted {table} k i n e) = i.held table (kept-holds k) refl refl n e
  kept-holds (refused_one {table} k i r e) = subst (Holds w table) (sym (i.kept r e)) (kept-holds k)

  pub kept_looks_up : {table memory : List ℕ} {prefix len asn : ℕ} {a : Answer Finding} → Kept Holds w table memory → LooksUp Holds w memory prefix len asn a
      → a ≡ look_up w (vrps w table) prefix len asn
  kept_looks_up {table} k l = l.exact table (kept-holds k)

-- An origin of 0 stands for none: it has the state of a route with no origin.
no_match : (w : ℕ) (l : List Vrp) (prefix len : ℕ) → exists (λ v. matches w v prefix len (some 0)) l ≡ exists (λ v. matches w v prefix len none) l
unfolding exists matches same_as
no_match w [] prefix len = refl
no_match w (v ∷ l) prefix len = rw (no_match w l prefix len, and-not_self (eqb v.asn 0)) refl

pub origin-none : (w : ℕ) (l : List Vrp) (prefix len : ℕ) → state_in w l prefix len (some 0) ≡ state_in w l prefix len none
unfolding state_in
origin-none w l prefix len = ap (λ (b : Bool). cond b valid (cond (exists (λ v. covers w v prefix len) l) invalid not_found)) (no_match w l prefix len)
