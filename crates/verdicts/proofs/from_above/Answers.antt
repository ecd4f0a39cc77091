-- The callee's test, turned round.
use Rattle.verdicts.proofs.from_above.Goals as goal

pub returns : goal.returns
returns c = simp c.one_of_two.ensures
