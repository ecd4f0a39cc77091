-- `store` meets its contract: what is left, the plan, and then room for it or none.
use mathlib.Core.List.{List}
use native.Mathlib.Omega.{arith}
use Rattle.rules.specs.Attributes.{Attribute}
use Rattle.rewriting.specs.Plan.{outgoing}
use Rattle.rewriting.specs.Stores.{told_output}
use Rattle.rewriting.proofs.Rooms.{stands_size, no_room_lem, too_long_lem, stored-whole}
use Rattle.rewriting.proofs.Thrown.{thrown-found, left-found}
use Rattle.rewriting.proofs.store.Goals as goal

pub make_plan-plan-requires : goal.make_plan-plan-requires
make_plan-plan-requires c = (c.requires, left-found c.requires c.value.ensures c.args.dropping c.sift-sifted.ensures.0)

pub returns-then-out-size : goal.returns-then-out-size
unfolding told_output
returns-then-out-size c =
    let made : List Attribute = outgoing c.args.dropping c.args.flags c.args.tag c.args.asn c.args.block.now in
    let p = c.make_plan-plan.ensures in
    let q = stands_size p in
    (no_room_lem made c.args.out.now (omega (arith, q, c.if-out-size.true)), tt)

pub returns-then-most-size : goal.returns-then-most-size
unfolding told_output
returns-then-most-size c =
    let made : List Attribute = outgoing c.args.dropping c.args.flags c.args.tag c.args.asn c.args.block.now in
    let p = c.make_plan-plan.ensures in
    let q = stands_size p in
    (too_long_lem made c.args.out.now (omega (arith, q, c.if-out-size.false)) (omega (arith, q, c.if-most-size.true)), tt)

pub returns : goal.returns
unfolding told_output
returns c =
    let made : List Attribute = outgoing c.args.dropping c.args.flags c.args.tag c.args.asn c.args.block.now in
    let p = c.make_plan-plan.ensures in
    let q = stands_size p in (
      stored-whole made c.args.out.now (omega (arith, q, c.if-out-size.false)) (omega (arith, q, c.if-most-size.false)) (rw p.is at c.write.ensures),
      thrown-found c.requires c.value.ensures c.sift-sifted.ensures.1,
    )
