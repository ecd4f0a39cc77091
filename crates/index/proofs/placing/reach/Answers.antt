-- `reach` meets its contract. The invariant: the node for the bits gone is there.
use Prim.Native.Nat.{◌+◌, ◌-◌, ◌/◌, ◌%◌, ◌^◌}
use mathlib.Core.Path.{◌≡◌, ◌∙◌}
use native.Mathlib.Omega.{arith}
use Rattle.vrp_tree.specs.Tree.{leading_bits}
use Rattle.index.proofs.Ways.{next_bit, going_start, going_none, going_off, going_next, going_end}
use Rattle.index.proofs.placing.reach.Goals as goal

pub loop-i-init : goal.loop-i-init
loop-i-init c = let a = c.args in
    let z : a.len - 0 ≡ a.len = omega arith in
    rw z (going_start a.memory.now _ a.len a.nodes (omega arith))

pub child-next-requires : goal.child-next-requires
child-next-requires c = let i = c.loop-i.invariant.within in (i.0, omega (arith, i), c.bit.ensures.1)

pub returns-then-next-eq0 : goal.returns-then-next-eq0
returns-then-next-eq0 c =
    let a = c.args in
    let bit_is : c.bit.result ≡ (2 ^ a.len + leading_bits a.prefix a.len) / 2 ^ (a.len - c.loop-i.i - 1) % 2 =
    c.bit.ensures.0 ∙ next_bit a.prefix a.len c.loop-i.i (a.len - c.loop-i.i) (omega arith) (omega arith) (omega arith) in
    going_none c.loop-i.invariant (omega arith) bit_is c.child-next.ensures c.if-next-eq0.true

pub returns-then-nodes-next : goal.returns-then-nodes-next
returns-then-nodes-next c =
    let a = c.args in
    let bit_is : c.bit.result ≡ (2 ^ a.len + leading_bits a.prefix a.len) / 2 ^ (a.len - c.loop-i.i - 1) % 2 =
    c.bit.ensures.0 ∙ next_bit a.prefix a.len c.loop-i.i (a.len - c.loop-i.i) (omega arith) (omega arith) (omega arith) in
    going_off c.loop-i.invariant (omega arith) bit_is c.child-next.ensures c.if-nodes-next.true

pub loop-i-preserved : goal.loop-i-preserved
loop-i-preserved c =
    let a = c.args in
    let bit_is : c.bit.result ≡ (2 ^ a.len + leading_bits a.prefix a.len) / 2 ^ (a.len - c.loop-i.i - 1) % 2 =
    c.bit.ensures.0 ∙ next_bit a.prefix a.len c.loop-i.i (a.len - c.loop-i.i) (omega arith) (omega arith) (omega arith) in
    let next : a.len - (c.loop-i.i + 1) ≡ a.len - c.loop-i.i - 1 = omega arith in
    rw next (going_next c.loop-i.invariant (omega arith) bit_is c.child-next.ensures c.if-next-eq0.false c.if-nodes-next.false)

pub returns : goal.returns
returns c = going_end c.loop-i.invariant (omega arith)
