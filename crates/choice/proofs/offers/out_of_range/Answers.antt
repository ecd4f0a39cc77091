-- `out_of_range` meets its contract.
use Rattle.choice.proofs.Candidates.{range_over, range_state}
use Rattle.choice.proofs.offers.out_of_range.Goals as goal

pub returns-then-size-gt-BLOCK_MAX : goal.returns-then-size-gt-BLOCK_MAX
returns-then-size-gt-BLOCK_MAX c = range_over _ _ c.if-size-gt-BLOCK_MAX.true

pub returns : goal.returns
returns c = range_state _ _ c.if-size-gt-BLOCK_MAX.false c.state_ok.ensures
