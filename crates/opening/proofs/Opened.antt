-- What opening decides, by what the code finds in turn: the settings, the size, the parameters, the roles (01, the order of answers).
use Prim.Native.Nat.{ℕ, ◌≤◌, ◌<◌}
use mathlib.Core.Path.{◌≡◌, refl, sym, ◌∙◌}
use mathlib.Core.Bool.{Bool, true, false, not, cond, ◌&&◌}
use mathlib.Core.List.{List, foldl}
use native.Mathlib.Omega.{arith}
use lib.Dec.{ltb}
use lib.ListN.{length}
use borrow.Author.Tests.{lt-ltb, le-ltb}
use Rattle.rules.specs.Answers.{done, refused, answer, order, first, number}
use Rattle.rules.specs.Settings.{parameters_max, role_ok, strict_ok}
use Rattle.rules.specs.Roles.{parameters_ok, roles_in, counterpart, disagree, open_checks, open_session}
use Rattle.rules.specs.declared.Refusal.TheVariants.{Rejected, BadSetting, BadLength, BadOpen}
use Rattle.opening.specs.Open.{noted, found, seen_disagree}
use Rattle.opening.specs.declared.Seen.{Seen}
use Rattle.opening.specs.declared.Seen.TheVariants.{Absent}
use Rattle.std.specs.Prelude.{Option, Some, None}
use Rattle.opening.proofs.Opening.{roles-judged}

-- What was found tells whether the parameters are well formed, and then the roles met.
module _ (ok : Bool) (seen : Seen) (roles : List ℕ) where
  found_bad : ((met : Seen) → found ok seen roles ≡ Some met → ⊥) → ok ≡ false
  unfolding found
  found_bad n = go ok n
    where
      go : (x : Bool) → ((met : Seen) → cond x (Some (foldl noted seen roles)) None ≡ Some met → ⊥) → x ≡ false
      go true n = absurd (n (foldl noted seen roles) refl)
      go false n = refl

  found-good : {met : Seen} → found ok seen roles ≡ Some met → (ok ≡ true) × (foldl noted seen roles ≡ met)
  unfolding found
  found-good {met} e = go ok e
    where
      go : (x : Bool) → cond x (Some (foldl noted seen roles)) None ≡ Some met → (x ≡ true) × (foldl noted seen roles ≡ met)
      go true z = let n : foldl noted seen roles ≡ met = cc in (refl, n)
      go false z = let n : ◌≡◌ {A = ℕ} 0 1 = cc in absurd (omega arith)

module _ (local strict : ℕ) (s : List ℕ) where
  opened : open_session local strict s
      ≡ cond (not (role_ok local && strict_ok strict)) (refused BadSetting)
      (cond (ltb parameters_max (length s)) (refused BadLength)
      (cond (not (parameters_ok s)) (refused BadOpen) (cond (disagree local strict (roles_in s)) (refused Rejected) (done (counterpart local)))))
  unfolding open_session open_checks answer order first number
  opened = refl

  pub open_setting : role_ok local && strict_ok strict ≡ false → refused BadSetting ≡ open_session local strict s
  open_setting e = sym (rw e at opened)

  module _ (e : role_ok local && strict_ok strict ≡ true) where
    pub open_length : parameters_max < length s → refused BadLength ≡ open_session local strict s
    open_length h = sym (rw (e, lt-ltb parameters_max (length s) h) at opened)

    module _ (h : length s ≤ parameters_max) {r : Option Seen} (p : r ≡ found (parameters_ok s) Absent (roles_in s)) where
      pub open_malformed : ((met : Seen) → r ≡ Some met → ⊥) → refused BadOpen ≡ open_session local strict s
      open_malformed n =
          sym (rw (e, le-ltb parameters_max (length s) h, found_bad (parameters_ok s) Absent (roles_in s) (λ met q. n met (p ∙ q))) at opened)

      module _ {met : Seen} (q : r ≡ Some met) {d : Bool} (k : d ≡ seen_disagree local strict met) where
        judged : disagree local strict (roles_in s) ≡ d
        judged = sym (k ∙ rw (← (found-good (parameters_ok s) Absent (roles_in s) (sym p ∙ q)).1) (roles-judged local strict (roles_in s)))

        pub open_rejected : d ≡ true → refused Rejected ≡ open_session local strict s
        open_rejected z =
            sym (rw (e, le-ltb parameters_max (length s) h, (found-good (parameters_ok s) Absent (roles_in s) (sym p ∙ q)).0, judged, z) at opened)

        pub open_done : d ≡ false → done (counterpart local) ≡ open_session local strict s
        open_done z =
            sym (rw (e, le-ltb parameters_max (length s) h, (found-good (parameters_ok s) Absent (roles_in s) (sym p ∙ q)).0, judged, z) at opened)
