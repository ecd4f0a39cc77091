-- `read_offer` meets its contract.
use Rattle.rules.specs.Choice.{offer}
use Rattle.choice.proofs.offers.read_offer.Goals as goal

pub returns : goal.returns
unfolding offer
returns c = rw (c.number4_at.ensures, c.number4_at-2.ensures, c.number4_at-3.ensures, c.number4_at-4.ensures)
