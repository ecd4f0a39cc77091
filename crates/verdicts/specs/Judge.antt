-- The rule of receipt and the rule of sending that applies to a route, as the code hands it on. Internal: `receipt_rules` and
-- `sending_rules` of `rules` are the rules.
use Rattle.std.specs.Prelude.{◌≡◌, Bool, cond, List, ℕ, Option, Some, None}
use Rattle.rules.specs.Answers.{Answer, Check, done, refused, answer, order}
use Rattle.rules.specs.Attributes.{Attribute, has_otc, otc_as}
use Rattle.rules.specs.Receipt.{receipt_rules}
use Rattle.rules.specs.Sending.{sending_rules}
use Rattle.rules.specs.declared.Session.{Session}
use Rattle.rules.specs.declared.Refusal.{Refusal}
use Rattle.rules.specs.declared.Refusal.TheVariants.{Ineligible, Withheld}

-- A rule's number as an answer, or none.
unfoldable pub ruled : (ℕ → Refusal) → Option ℕ → Answer ℕ
ruled refusal None = done 0
ruled refusal (Some r) = refused (refusal r)

-- What rules answer by themselves.
abbrev pub judged : List Check → Answer ℕ
judged rules = answer order rules 0

-- The AS that the OTC of attributes names, or none where they have no OTC.
unfoldable pub otc_in : List Attribute → Option ℕ
otc_in l = cond (has_otc l) (Some (otc_as l)) None

-- What the rules answer of attributes by what they look at: the AS that an OTC names, or whether there is one.
abbrev pub ReceiptRule : Session → Option ℕ → Option ℕ → Type 0
ReceiptRule s otc r = (l : List Attribute) → otc_in l ≡ otc → judged (receipt_rules s l) ≡ ruled (λ k. Ineligible k) r

abbrev pub SendingRule : Session → ℕ → ℕ → Bool → Option ℕ → Type 0
SendingRule s source state has r =
    (l : List Attribute) → has_otc l ≡ has → judged (sending_rules s source state l) ≡ ruled (λ k. Withheld k) r
