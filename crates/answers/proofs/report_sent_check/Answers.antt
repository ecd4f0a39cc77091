-- `report_sent_check` meets its contract.
use mathlib.Core.Path.{◌≡◌, refl, ◌∙◌}
use Rattle.std.specs.Prelude.{Bool, true, false, cond}
use Rattle.std.specs.Int.{from_bool}
use Rattle.rules.specs.Answers.{answer_number, beside_number}
use Rattle.rules.specs.OtherMake.{yes, no, told_sent_check}
use Rattle.answers.proofs.report_sent_check.Goals as goal

pub returns-in-Ok : goal.returns-in-Ok
unfolding told_sent_check answer_number beside_number
returns-in-Ok c = rw c.in-Ok.is (refl, c.from.ensures ∙ go c.in-Ok.allowed)
  where
    go : (b : Bool) → from_bool b ≡ cond b yes no
    go true = refl
    go false = refl

pub returns-in-Err : goal.returns-in-Err
unfolding told_sent_check answer_number beside_number
returns-in-Err c = rw c.in-Err.is c.report_refusal.ensures
