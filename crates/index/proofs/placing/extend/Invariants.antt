-- `extend` meets its contract. The invariant: so many nodes are made, each below the one before, and the parts to come give those that are
-- wanted.
use Prim.Native.Nat.{◌+◌, ◌^◌}
use Rattle.vrp_tree.specs.Tree.{leading_bits}
use Rattle.index.proofs.Ways.{Extending}
use Rattle.index.proofs.placing.extend.Given as goal

abbrev pub invariant-loop-made : goal.invariant-loop-made
invariant-loop-made l = Extending l.initial.memory (2 ^ l.len + leading_bits l.prefix l.len) l.left l.node l.nodes l.memory l.last l.made
