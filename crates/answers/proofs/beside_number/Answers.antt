-- `beside_number` meets its contract: each arm by the row of the table.
use Prim.Native.Nat.{ℕ}
use mathlib.Core.Path.{◌≡◌, refl}
use Rattle.rules.specs.declared.Refusal.{Refusal}
use Rattle.rules.specs.declared.Refusal.TheVariants.{Ineligible, Withheld, Malformed, Rejected, BadSetting, BadLength, NoRoom, BadOpen, BadVrp, BadCandidate, NoRoute, Unreadable}
use Rattle.rules.specs.Answers.{refused, beside, beside_number}
use Rattle.answers.proofs.beside_number.Goals as goal

-- Of the refusals that the last arm takes, none has a number beside it.
none_beside : (r : Refusal) → ((x : ℕ) → r ≡ Ineligible x → ⊥) → ((x : ℕ) → r ≡ Withheld x → ⊥) → ((x : ℕ) → r ≡ Malformed x → ⊥)
    → ((x : ℕ) → r ≡ BadVrp x → ⊥) → ((x : ℕ) → r ≡ BadCandidate x → ⊥) → 0 ≡ beside_number (refused r)
unfolding beside beside_number
none_beside (Ineligible rule) i w m v k = absurd (i rule refl)
none_beside (Withheld rule) i w m v k = absurd (w rule refl)
none_beside (Malformed fault) i w m v k = absurd (m fault refl)
none_beside Rejected i w m v k = refl
none_beside BadSetting i w m v k = refl
none_beside BadLength i w m v k = refl
none_beside NoRoom i w m v k = refl
none_beside BadOpen i w m v k = refl
none_beside (BadVrp index) i w m v k = absurd (v index refl)
none_beside (BadCandidate index) i w m v k = absurd (k index refl)
none_beside NoRoute i w m v k = refl
none_beside Unreadable i w m v k = refl

pub returns-in-Ineligible : goal.returns-in-Ineligible
unfolding beside beside_number
returns-in-Ineligible c = rw c.in-Ineligible.is refl

pub returns-in-Withheld : goal.returns-in-Withheld
unfolding beside beside_number
returns-in-Withheld c = rw c.in-Withheld.is refl

pub returns-in-Malformed : goal.returns-in-Malformed
unfolding beside beside_number
returns-in-Malformed c = rw c.in-Malformed.is refl

pub returns-in-BadVrp : goal.returns-in-BadVrp
unfolding beside beside_number
returns-in-BadVrp c = rw c.in-BadVrp.is refl

pub returns-in-BadCandidate : goal.returns-in-BadCandidate
unfolding beside beside_number
returns-in-BadCandidate c = rw c.in-BadCandidate.is refl

pub returns-in_default : goal.returns-in_default
returns-in_default c =
    let h = c.in_default in
    none_beside c.args.refusal h.not-Ineligible h.not-Withheld h.not-Malformed h.not-BadVrp h.not-BadCandidate
