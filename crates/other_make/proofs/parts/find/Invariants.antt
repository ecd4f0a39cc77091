-- `find` meets its contract. The loop's invariant: the first of the type is to come, or is none.
use Prim.Native.Nat.{◌-◌}
use lib.ListN.{length}
use Rattle.other_make.proofs.Walks.{Seeking}
use Rattle.other_make.proofs.parts.find.Given as goal

abbrev pub invariant-loop-at : goal.invariant-loop-at
invariant-loop-at l = Seeking l.kind l.block l.at

abbrev pub decreases-loop-at : goal.decreases-loop-at
decreases-loop-at l = length l.block - l.at
