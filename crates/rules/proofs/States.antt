-- A table in parts: the state found over the parts is that of the whole (02, Q-1), for any number of parts and any width.
use Prim.Native.Nat.{ℕ}
use mathlib.Core.Path.{◌≡◌, refl, sym, ◌∙◌}
use mathlib.Core.Bool.{Bool, true, false, cond, ◌||◌}
use mathlib.Core.List.{List, [], ◌∷◌, map, flatten}
use mathlib.Core.Option.{Option}
use lib.Dec.{eqb}
use Rattle.rules.specs.Bytes.{exists, one_of}
use Rattle.rules.specs.Settings.{valid, not_found, invalid}
use Rattle.rules.specs.Origin.{Vrp, covers, matches, state_in, state_over}
use Rattle.rules.proofs.Lists.{exists-append, neither}

module _ (w prefix len : ℕ) (origin : Option ℕ) where
  abbrev matching : List Vrp → Bool
  matching l = exists (λ v. matches w v prefix len origin) l

  abbrev covering : List Vrp → Bool
  covering l = exists (λ v. covers w v prefix len) l

  -- The states of the parts, each by itself.
  abbrev pub states_of : List (List Vrp) → List ℕ
  states_of parts = map (λ l. state_in w l prefix len origin) parts

  -- Some part is valid exactly where some VRP matches.
  parts-valid : (parts : List (List Vrp)) → one_of (states_of parts) valid ≡ matching (flatten parts)
  unfolding one_of exists flatten state_in
  parts-valid [] = refl
  parts-valid (l ∷ parts) =
      rw (parts-valid parts, exists-append (λ v. matches w v prefix len origin) l (flatten parts)) (go (matching l) (covering l))
    where
      go : (m c : Bool) → eqb valid (cond m valid (cond c invalid not_found)) || matching (flatten parts) ≡ m || matching (flatten parts)
      go true c = refl
      go false true = refl
      go false false = refl

  -- Where none matches, some part is invalid exactly where some VRP covers.
  parts-invalid : (parts : List (List Vrp)) → matching (flatten parts) ≡ false → one_of (states_of parts) invalid ≡ covering (flatten parts)
  unfolding one_of exists flatten state_in
  parts-invalid [] e = refl
  parts-invalid (l ∷ parts) e =
      let n = neither (matching l) (matching (flatten parts)) (sym (exists-append (λ v. matches w v prefix len origin) l (flatten parts)) ∙ e) in
      rw (n.0, parts-invalid parts n.1, exists-append (λ v. covers w v prefix len) l (flatten parts)) (go (covering l))
    where
      go : (c : Bool) → eqb invalid (cond c invalid not_found) || covering (flatten parts) ≡ c || covering (flatten parts)
      go true = refl
      go false = refl

  pub state_over_lem : (parts : List (List Vrp)) → state_over (states_of parts) ≡ state_in w (flatten parts) prefix len origin
  unfolding state_over state_in
  state_over_lem parts = rw (parts-valid parts) (go (matching (flatten parts)) refl)
    where
      go : (m : Bool) → matching (flatten parts) ≡ m
          → cond m valid (cond (one_of (states_of parts) invalid) invalid not_found) ≡ cond m valid (cond (covering (flatten parts)) invalid not_found)
      go true e = refl
      go false e = rw (parts-invalid parts e) refl
