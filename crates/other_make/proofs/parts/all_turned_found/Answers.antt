-- `all_turned_found` meets its contract. The loop's invariant: so far all are found, and what is to come is the rest.
use native.Mathlib.Omega.{arith}
use Rattle.attributes.proofs.Sizes.{item-whole}
use Rattle.other_make.proofs.Finds.{finding_start, finding-fits, finding-room, finding-leaves, finding_missing, finding-next, finding-end}
use Rattle.other_make.proofs.parts.all_turned_found.Goals as goal

pub loop-at-init : goal.loop-at-init
loop-at-init c = finding_start _ _ _ _ c.requires.0 c.requires.1

pub turned_found-requires : goal.turned_found-requires
turned_found-requires c =
    let b = c.args.block.now in
    let w = item-whole b c.loop-at.at c.attribute_size-n.ensures.is (finding-fits c.loop-at.invariant c.loop-at-test.true c.attribute_size-n.ensures) in
    (record { two = w.0; header = w.1 }, finding-leaves c.loop-at.invariant c.loop-at-test.true c.attribute_size-n.ensures, omega (arith, c.loop-at.invariant.few))

-- What is told where the attribute is missing, and where it is found.
pub returns-in_err-so_far : goal.returns-in_err-so_far
returns-in_err-so_far c = rw c.from_residual.ensures (finding_missing c.loop-at.invariant c.loop-at-test.true c.attribute_size-n.ensures c.in_err-so_far.was c.turned_found.ensures.0, tt)

pub overflow_add-at-in-loop-at : goal.overflow_add-at-in-loop-at
overflow_add-at-in-loop-at c =
    omega (arith, finding-room c.loop-at.invariant c.loop-at-test.true c.attribute_size-n.ensures)

pub loop-at-smaller : goal.loop-at-smaller
loop-at-smaller c =
    omega (arith, finding-room c.loop-at.invariant c.loop-at-test.true c.attribute_size-n.ensures, finding-fits c.loop-at.invariant c.loop-at-test.true c.attribute_size-n.ensures)

pub loop-at-preserved : goal.loop-at-preserved
loop-at-preserved c =
    finding-next c.loop-at.invariant c.loop-at-test.true c.attribute_size-n.ensures c.in_ok-so_far.was c.turned_found.ensures

pub returns : goal.returns
returns c = finding-end c.loop-at.invariant (omega (arith, c.loop-at-test.false))

pub overflow_add-at : goal.overflow_add-at
overflow_add-at c =
    omega (arith, finding-room c.loop-at.invariant c.loop-at-test.true c.attribute_size-n.ensures)

pub slice_bounds-turned_found-end : goal.slice_bounds-turned_found-end
slice_bounds-turned_found-end c =
    omega (arith, finding-room c.loop-at.invariant c.loop-at-test.true c.attribute_size-n.ensures)
