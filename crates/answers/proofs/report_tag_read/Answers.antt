-- `report_tag_read` meets its contract.
use mathlib.Core.Path.{refl}
use Rattle.rules.specs.Answers.{told_tag_read, thrown_read, answer_number, beside_number}
use Rattle.answers.proofs.report_tag_read.Goals as goal

pub returns-in-Ok : goal.returns-in-Ok
unfolding told_tag_read thrown_read answer_number beside_number
returns-in-Ok c = rw c.in-Ok.is (refl, c.from.ensures, refl)

pub returns-in-Err : goal.returns-in-Err
unfolding told_tag_read thrown_read answer_number beside_number
returns-in-Err c = rw c.in-Err.is (c.report_unnumbered.ensures.0, c.report_unnumbered.ensures.1, c.report_unnumbered.ensures.2)
