-- `find` meets its contract. The loop's invariant: the first of the type is to come, or is none.
use Prim.Native.Nat.{◌+◌, ◌≤◌}
use native.Mathlib.Omega.{arith}
use lib.ListN.{length, drop}
use Rattle.attributes.proofs.Sizes.{item-least}
use Rattle.other_make.proofs.Walks.{seeking_start, seeking_torn, seeking_found, seeking_next, seeking_end}
use Rattle.other_make.proofs.parts.find.Goals as goal

pub returns-then-n-eq0 : goal.returns-then-n-eq0
returns-then-n-eq0 c = seeking_torn c.loop-at.invariant c.attribute_size-n.ensures.is c.loop-at-test.true c.if-n-eq0.true

pub overflow_add-at : goal.overflow_add-at
overflow_add-at c =
    let fits : (c.loop-at.at + c.attribute_size-n.result ≤ length c.args.block.now) × (3 ≤ c.attribute_size-n.result) = (c.attribute_size-n.ensures.within c.if-n-eq0.false, item-least (drop c.loop-at.at c.args.block.now) c.attribute_size-n.ensures.is c.if-n-eq0.false) in
    omega (arith, fits)

pub bounds-block-at : goal.bounds-block-at
bounds-block-at c =
    let fits : (c.loop-at.at + c.attribute_size-n.result ≤ length c.args.block.now) × (3 ≤ c.attribute_size-n.result) = (c.attribute_size-n.ensures.within c.if-n-eq0.false, item-least (drop c.loop-at.at c.args.block.now) c.attribute_size-n.ensures.is c.if-n-eq0.false) in
    omega (arith, fits)

pub overflow_add-result : goal.overflow_add-result
overflow_add-result c =
    let fits : (c.loop-at.at + c.attribute_size-n.result ≤ length c.args.block.now) × (3 ≤ c.attribute_size-n.result) = (c.attribute_size-n.ensures.within c.if-n-eq0.false, item-least (drop c.loop-at.at c.args.block.now) c.attribute_size-n.ensures.is c.if-n-eq0.false) in
    omega (arith, fits)

pub slice_bounds-result-end-then-block-at : goal.slice_bounds-result-end-then-block-at
slice_bounds-result-end-then-block-at c =
    let fits : (c.loop-at.at + c.attribute_size-n.result ≤ length c.args.block.now) × (3 ≤ c.attribute_size-n.result) = (c.attribute_size-n.ensures.within c.if-n-eq0.false, item-least (drop c.loop-at.at c.args.block.now) c.attribute_size-n.ensures.is c.if-n-eq0.false) in
    omega (arith, fits)

pub returns-then-block-at : goal.returns-then-block-at
returns-then-block-at c = seeking_found c.loop-at.invariant c.attribute_size-n.ensures.is c.if-n-eq0.false c.if-block-at.true

pub overflow_add-at-in-loop-at : goal.overflow_add-at-in-loop-at
overflow_add-at-in-loop-at c =
    let fits : (c.loop-at.at + c.attribute_size-n.result ≤ length c.args.block.now) × (3 ≤ c.attribute_size-n.result) = (c.attribute_size-n.ensures.within c.if-n-eq0.false, item-least (drop c.loop-at.at c.args.block.now) c.attribute_size-n.ensures.is c.if-n-eq0.false) in
    omega (arith, fits)

pub loop-at-smaller : goal.loop-at-smaller
loop-at-smaller c =
    let fits : (c.loop-at.at + c.attribute_size-n.result ≤ length c.args.block.now) × (3 ≤ c.attribute_size-n.result) = (c.attribute_size-n.ensures.within c.if-n-eq0.false, item-least (drop c.loop-at.at c.args.block.now) c.attribute_size-n.ensures.is c.if-n-eq0.false) in
    omega (arith, fits)

pub loop-at-preserved : goal.loop-at-preserved
loop-at-preserved c =
    let fits : (c.loop-at.at + c.attribute_size-n.result ≤ length c.args.block.now) × (3 ≤ c.attribute_size-n.result) = (c.attribute_size-n.ensures.within c.if-n-eq0.false, item-least (drop c.loop-at.at c.args.block.now) c.attribute_size-n.ensures.is c.if-n-eq0.false) in
    seeking_next c.loop-at.invariant c.attribute_size-n.ensures.is c.if-n-eq0.false c.if-block-at.false fits.0

pub returns : goal.returns
returns c = seeking_end c.loop-at.invariant (omega (arith, c.loop-at-test.false))

pub loop-at-init : goal.loop-at-init
loop-at-init c = seeking_start _ _
