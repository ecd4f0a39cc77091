-- `measure` meets its contract: the plan knows how long the block is as it goes out.
use Rattle.rewriting.proofs.Rooms.{stands_size}
use Rattle.rewriting.proofs.Thrown.{left-found}
use Rattle.rewriting.proofs.measure.Goals as goal

pub make_plan-plan-requires : goal.make_plan-plan-requires
make_plan-plan-requires c = (c.requires, left-found c.requires c.value.ensures c.args.dropping c.sift-left.ensures.0)

pub returns : goal.returns
returns c = stands_size c.make_plan-plan.ensures
