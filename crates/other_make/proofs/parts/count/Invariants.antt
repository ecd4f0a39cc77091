-- `count` meets its contract. The loop's invariant: those passed and those to come are all.
use Prim.Native.Nat.{◌-◌}
use lib.ListN.{length}
use Rattle.other_make.proofs.Walks.{Counting}
use Rattle.other_make.proofs.parts.count.Given as goal

abbrev pub invariant-loop-at : goal.invariant-loop-at
invariant-loop-at l = Counting l.block l.at l.passed

abbrev pub decreases-loop-at : goal.decreases-loop-at
decreases-loop-at l = length l.block - l.at
