-- `make_plan` meets its contract: the numbers of the plan are those of the block.
use native.Mathlib.Omega.{arith}
use Rattle.communities.specs.Tags.{drop_test}
use Rattle.rewriting.proofs.Planning.{plan_sizing, plan_left, plan_rest, plan_made}
use Rattle.rewriting.proofs.planner.make_plan.Goals as goal

pub turned_size-requires : goal.turned_size-requires
turned_size-requires c = plan_sizing c.requires.0 c.args.dropping c.args.flags c.args.state c.args.asn c.attribute_size-k.ensures c.requires.1 c.otc_to_add-otc.ensures

pub overflow_add-result : goal.overflow_add-result
overflow_add-result c = omega (arith, plan_rest c.requires.0 c.args.dropping c.args.flags c.args.state c.args.asn c.attribute_size-k.ensures c.requires.1 c.otc_to_add-otc.ensures)

pub returns : goal.returns
returns c = let left = plan_left c.requires.0 c.args.dropping c.args.flags c.args.state c.args.asn c.attribute_size-k.ensures c.requires.1 c.otc_to_add-otc.ensures in
    plan_made c.requires.0 c.args.dropping c.args.flags c.args.state c.args.asn c.attribute_size-k.ensures c.requires.1 c.otc_to_add-otc.ensures
    (omega (arith, c.turned_size.ensures.0 (drop_test c.args.dropping) left, c.new_tag_size-tag_size.ensures.0 c.args.flags, c.new_otc_size-otc_size.ensures.0 c.args.flags))
