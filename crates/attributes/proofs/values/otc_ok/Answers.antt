-- `otc_ok` meets its contract: four bytes.
use Rattle.rules.specs.Attributes.{otc_ok}
use borrow.Author.Rules.{rules}
use Rattle.attributes.proofs.values.otc_ok.Goals as goal

pub returns : goal.returns
unfolding otc_ok
returns c = search rules
