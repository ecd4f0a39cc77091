-- `report_received` meets its contract.
use mathlib.Core.Path.{refl}
use Rattle.rules.specs.Answers.{told_received, thrown_received, state_received, answer_number, beside_number}
use Rattle.answers.proofs.report_received.Goals as goal

pub returns-in-Ok : goal.returns-in-Ok
unfolding told_received thrown_received state_received answer_number beside_number
returns-in-Ok c = rw c.in-Ok.is (record { answered = refl; beside = refl; thrown = refl; state = refl })

pub returns-in-Err-Ineligible : goal.returns-in-Err-Ineligible
unfolding told_received thrown_received state_received answer_number beside_number
returns-in-Err-Ineligible c = rw (c.in-Err-Ineligible.is, rw c.in-Err-Ineligible.is at c.in-Err-Ineligible.field-0-is)
    (record { answered = c.report_refusal.ensures.0; beside = c.report_refusal.ensures.1; thrown = refl; state = refl })

pub returns-in-Err-Refused : goal.returns-in-Err-Refused
unfolding told_received thrown_received state_received answer_number beside_number
returns-in-Err-Refused c = let u = c.report_unnumbered.ensures in
    rw (c.in-Err-Refused.is, rw c.in-Err-Refused.is at c.in-Err-Refused.field-0-is) (record { answered = u.0; beside = u.1; thrown = u.2; state = refl })
