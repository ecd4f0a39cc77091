-- `extend` meets its contract. The invariant: so many nodes are made, each below the one before, and the parts to come give those that are
-- wanted.
use Prim.Native.Nat.{◌-◌}
use mathlib.Core.Path.{◌∙◌}
use native.Mathlib.Omega.{arith}
use Rattle.index.proofs.Ways.{next_bit, extending_start, extending_next, extending_end}
use Rattle.index.proofs.placing.extend.Goals as goal

pub loop-made-init : goal.loop-made-init
loop-made-init c = let a = c.args in extending_start a.memory.now _ a.left a.node a.nodes (omega arith) (omega arith)

pub grow-requires : goal.grow-requires
grow-requires c = let g = c.loop-made.invariant in
    (g.within.0, g.within.1, omega (arith, g.size), c.bit.ensures.1, omega arith)

pub loop-made-preserved : goal.loop-made-preserved
loop-made-preserved c = let a = c.args in
    extending_next c.loop-made.invariant c.loop-made-test.true
    (c.bit.ensures.0 ∙ next_bit a.prefix a.len (a.len - (a.left - c.loop-made.made)) (a.left - c.loop-made.made) (omega arith) (omega arith) (omega arith)) (omega arith)
    c.grow.ensures

pub shape_of-memory : goal.shape_of-memory
shape_of-memory c = c.loop-made.invariant.size

pub returns : goal.returns
returns c = extending_end c.loop-made.invariant (omega arith)
