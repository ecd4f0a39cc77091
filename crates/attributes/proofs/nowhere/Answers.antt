-- `nowhere` meets its contract: every place at the end.
use Rattle.attributes.specs.Steps.{at_end}
use borrow.Author.Rules.{rules}
use Rattle.attributes.proofs.nowhere.Goals as goal

pub returns : goal.returns
unfolding at_end
returns c = search rules
