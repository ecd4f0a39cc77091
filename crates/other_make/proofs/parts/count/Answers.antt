-- `count` meets its contract. The loop's invariant: those passed and those to come are all.
use native.Mathlib.Omega.{arith}
use Rattle.other_make.proofs.Walks.{counting_start, counting_torn, counting_next, counting_end}
use Rattle.other_make.proofs.parts.count.Goals as goal

pub loop-at-init : goal.loop-at-init
loop-at-init c = counting_start c.args.block.now

pub returns-then-n-eq0 : goal.returns-then-n-eq0
returns-then-n-eq0 c = counting_torn c.loop-at.invariant c.attribute_size-n.ensures.is c.loop-at-test.true c.if-n-eq0.true

pub overflow_add-passed : goal.overflow_add-passed
overflow_add-passed c =
    let next = counting_next c.loop-at.invariant c.attribute_size-n.ensures c.if-n-eq0.false in
    omega (arith, next.few, next.within)

pub loop-at-preserved : goal.loop-at-preserved
loop-at-preserved c =
    counting_next c.loop-at.invariant c.attribute_size-n.ensures c.if-n-eq0.false

pub returns : goal.returns
returns c = counting_end c.loop-at.invariant (omega (arith, c.loop-at-test.false))

pub overflow_add-at : goal.overflow_add-at
overflow_add-at c =
    omega (arith, (counting_next c.loop-at.invariant c.attribute_size-n.ensures c.if-n-eq0.false).within)

pub loop-at-smaller : goal.loop-at-smaller
loop-at-smaller c =
    omega (arith, (counting_next c.loop-at.invariant c.attribute_size-n.ensures c.if-n-eq0.false).within)
