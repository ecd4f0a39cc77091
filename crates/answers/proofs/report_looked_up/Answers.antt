-- `report_looked_up` meets its contract.
use mathlib.Core.Path.{refl}
use Rattle.rules.specs.Answers.{answer_number, beside_number}
use Rattle.rules.specs.Index.{told_looked_up, state_told, visited_told}
use Rattle.answers.proofs.report_looked_up.Goals as goal

pub returns-in-Ok : goal.returns-in-Ok
unfolding told_looked_up answer_number beside_number state_told visited_told
returns-in-Ok c = rw c.in-Ok.is (record { answered = refl; beside = refl; visited = refl })

pub returns-in-Err : goal.returns-in-Err
unfolding told_looked_up answer_number beside_number state_told visited_told
returns-in-Err c = rw c.in-Err.is
    (record { answered = c.report_refusal.ensures.0; beside = c.report_refusal.ensures.1; visited = refl })
