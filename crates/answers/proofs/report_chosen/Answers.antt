-- `report_chosen` meets its contract.
use mathlib.Core.Path.{refl}
use Rattle.rules.specs.Answers.{answer_number, beside_number}
use Rattle.rules.specs.Choice.{told_chosen, index_told, left_told}
use Rattle.answers.proofs.report_chosen.Goals as goal

pub returns-in-Ok : goal.returns-in-Ok
unfolding told_chosen answer_number beside_number index_told left_told
returns-in-Ok c = rw c.in-Ok.is (refl, refl, refl)

pub returns-in-Err : goal.returns-in-Err
unfolding told_chosen answer_number beside_number index_told left_told
returns-in-Err c = rw c.in-Err.is (c.report_refusal.ensures.0, c.report_refusal.ensures.1, refl)
