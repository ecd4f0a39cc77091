-- `reach` meets its contract. The invariant: the node for the bits gone is there.
use Prim.Native.Nat.{◌+◌, ◌-◌, ◌^◌}
use Rattle.vrp_tree.specs.Tree.{leading_bits}
use Rattle.index.proofs.Ways.{Going}
use Rattle.index.proofs.placing.reach.Given as goal

abbrev pub invariant-loop-i : goal.invariant-loop-i
invariant-loop-i l = Going l.memory (2 ^ l.len + leading_bits l.prefix l.len) l.len l.nodes l.node (l.len - l.i)
