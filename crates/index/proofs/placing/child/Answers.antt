-- `child` meets its contract.
use Rattle.index.proofs.placing.child.Goals as goal

pub returns : goal.returns
returns c = c.index_of.ensures.0
