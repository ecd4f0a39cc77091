-- `arrive` meets its contract: no node, or the last one.
use native.Mathlib.Omega.{arith}
use Rattle.lookup.proofs.Descents.{out-zero, out_far, out_in}
use Rattle.lookup.proofs.Steps.{arrived-off, arrived_in}
use Rattle.lookup.proofs.descent.arrive.Goals as goal

pub returns-then-node-eq0 : goal.returns-then-node-eq0
returns-then-node-eq0 c = let a = c.args in
    arrived-off a.memory.now a.len a.asn a.node a.seen (out-zero a.memory.now a.node c.if-node-eq0.true)

pub returns-then-memory-node : goal.returns-then-memory-node
returns-then-memory-node c = let a = c.args in
    arrived-off a.memory.now a.len a.asn a.node a.seen (out_far a.memory.now a.node (omega (arith, c.if-memory-node.true)))

pub returns : goal.returns
returns c = let a = c.args in
    arrived_in a.memory.now a.len a.asn a.node a.seen (out_in a.memory.now a.node c.if-node-eq0.false (omega (arith, c.if-memory-node.false))) c.index_of.ensures.0 c.note.ensures
