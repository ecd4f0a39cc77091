-- `report` meets its contract.
use mathlib.Core.Path.{refl}
use Rattle.rules.specs.Answers.{told, answer_number, beside_number}
use Rattle.answers.proofs.report.Goals as goal

pub returns-in-Ok : goal.returns-in-Ok
unfolding told answer_number beside_number
returns-in-Ok c = rw c.in-Ok.is (refl, refl)

pub returns-in-Err : goal.returns-in-Err
unfolding told answer_number beside_number
returns-in-Err c = rw c.in-Err.is c.report_refusal.ensures
