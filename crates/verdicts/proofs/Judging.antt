-- The state that a tag tells and the AS of a new OTC, as the code hands them on (01, "Sending"), what the rules answer, and their place in
-- the order of answers.
use mathlib.Core.Path.{◌≡◌, refl, sym}
use mathlib.Core.Bool.{Bool, true, false, not, cond, ◌&&◌}
use mathlib.Core.List.{List, [], ◌∷◌}
use mathlib.Core.Option.{none, some}
use Prim.Native.Nat.{ℕ, zero, suc}
use native.Mathlib.Omega.{arith}
use borrow.Author.Tests.{lt-leb, ne_eqb}
use lib.Dec.{eqb}
use Rattle.std.specs.Prelude.{Some, None}
use Rattle.std.specs.Bool.{then_some}
use Rattle.std.proofs.lemmas.Option.{none-some, cond_some}
use Rattle.rules.specs.Bytes.{exists, one_of}
use Rattle.rules.specs.Answers.{number, order, first, answer, done, refused}
use Rattle.rules.specs.Attributes.{Attribute, has_otc, otc_as}
use Rattle.rules.specs.Roles.{provider, rs, rs_client, customer, peer, remote_role}
use Rattle.rules.specs.Receipt.{receipt_rules}
use Rattle.rules.specs.Sending.{sending_rules, own_route}
use Rattle.rules.specs.declared.Session.{Session}
use Rattle.rules.specs.declared.Refusal.TheVariants.{Ineligible, Withheld}
use Rattle.rules.proofs.Answers.{earlier}
use Rattle.rules.proofs.Checked.{Late}
use Rattle.rules.specs.Settings.{valid, not_found, invalid, mode_meant, drop_invalid, remote_as}
use Rattle.settings.specs.Told.{told_tag, told_otc}
use Rattle.verdicts.specs.Judge.{judged, otc_in}

-- 01, Sending: "the state is 0, 1 or 2".
pub state_told_lem : (state : ℕ) → told_tag state ≡ cond (one_of (valid ∷ not_found ∷ invalid ∷ []) state) (some state) none
unfolding told_tag one_of exists
state_told_lem zero = refl
state_told_lem (suc zero) = refl
state_told_lem (suc (suc zero)) = refl
state_told_lem (suc (suc (suc n))) =
    let m = suc (suc (suc n)) in
    simp (lt-leb m 2 (omega arith), ne_eqb m valid (omega arith), ne_eqb m not_found (omega arith), ne_eqb m invalid (omega arith))

-- The rules go after settings, size and fault.
pub receipt_late : (s : Session) (l : List Attribute) → Late (receipt_rules s l)
unfolding receipt_rules order number earlier one_of exists
receipt_late s l = ((refl, (refl, tt)), (refl, (refl, tt)), (refl, (refl, tt)))

pub sending_late : (s : Session) (source state : ℕ) (l : List Attribute) → Late (sending_rules s source state l)
unfolding sending_rules order number earlier one_of exists
sending_late s source state l = ((refl, (refl, (refl, tt))), (refl, (refl, (refl, tt))), (refl, (refl, (refl, tt))))

-- The AS of a new OTC, where a test holds.
pub otc_if : (wanted : Bool) (asn : ℕ) → told_otc (then_some wanted asn) ≡ cond wanted (some asn) none
unfolding told_otc
otc_if true asn = refl
otc_if false asn = refl

-- What the rules of receipt answer of attributes without an OTC, and of those whose OTC names an AS.
module _ (s : Session) (l : List Attribute) where
  pub receipt_without : otc_in l ≡ None → judged (receipt_rules s l) ≡ done 0
  unfolding receipt_rules answer order first otc_in number
  receipt_without h = go (has_otc l) refl h
    where
      go : (b : Bool) → has_otc l ≡ b → cond b (Some (otc_as l)) None ≡ None → judged (receipt_rules s l) ≡ done 0
      go true e h = absurd (none-some _ (sym h))
      go false e h = rw e refl

  pub receipt_with : {asn : ℕ} → otc_in l ≡ Some asn
      → judged (receipt_rules s l)
      ≡ cond (one_of (customer ∷ rs_client ∷ []) (remote_role s)) (refused (Ineligible 1)) (cond (eqb (remote_role s) peer && not (eqb asn (remote_as s))) (refused (Ineligible 2)) (done 0))
  unfolding receipt_rules answer order first otc_in number
  receipt_with h = let d = cond_some (has_otc l) _ _ h in rw (d.0, d.1) refl

-- What the rules of sending answer, test by test.
pub sending_judged : (s : Session) (source state : ℕ) (l : List Attribute)
    → judged (sending_rules s source state l)
    ≡ cond (has_otc l && one_of (provider ∷ peer ∷ rs ∷ []) (remote_role s)) (refused (Withheld 1))
    (cond (not (one_of (own_route ∷ customer ∷ []) source) && one_of (provider ∷ peer ∷ rs ∷ []) (remote_role s)) (refused (Withheld 2))
    (cond (eqb (mode_meant s.mode) drop_invalid && eqb state invalid && eqb (remote_role s) rs_client) (refused (Withheld 3)) (done 0)))
unfolding sending_rules answer order first number
sending_judged s source state l = refl
