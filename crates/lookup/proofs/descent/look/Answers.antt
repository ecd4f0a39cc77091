-- `look` meets its contract: all bits of the prefix.
use Rattle.lookup.proofs.descent.look.Goals as goal

pub returns : goal.returns
returns c = c.down.ensures
