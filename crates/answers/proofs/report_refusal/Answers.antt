-- `report_refusal` meets its contract: the two numbers as they were found.
use Rattle.answers.proofs.report_refusal.Goals as goal

pub returns : goal.returns
returns c = (c.refusal_number.ensures, c.beside_number.ensures)
