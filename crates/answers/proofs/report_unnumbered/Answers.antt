-- `report_unnumbered` meets its contract.
use mathlib.Core.Path.{refl}
use Rattle.answers.proofs.report_unnumbered.Goals as goal

pub returns : goal.returns
returns c = (c.report_refusal.ensures.0, c.report_refusal.ensures.1, refl)
