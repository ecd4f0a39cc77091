-- `step` meets its contract: no node, or its child for the bit.
use native.Mathlib.Omega.{arith}
use Rattle.lookup.proofs.Descents.{out_far, out_in}
use Rattle.lookup.proofs.Steps.{stepped_off, stepped_in}
use Rattle.lookup.proofs.descent.step.Goals as goal

pub returns-then-memory-node : goal.returns-then-memory-node
returns-then-memory-node c = let a = c.args in
    stepped_off a.memory.now a.len a.asn _ a.node a.seen (out_far a.memory.now a.node (omega (arith, c.if-memory-node.true)))

pub returns : goal.returns
returns c = let a = c.args in
    stepped_in a.memory.now a.len a.asn _ a.node a.seen (out_in a.memory.now a.node (λ e. omega arith) (omega (arith, c.if-memory-node.false))) c.index_of-b.ensures.0 c.index_of.ensures.0 c.index_of.ensures.1 c.index_of-2.ensures.0 c.note.ensures
