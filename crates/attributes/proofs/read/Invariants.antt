-- `read` meets its contract: the loop walks the attributes up to a fault, and at the end ORIGIN and AS_PATH have been met.
use Prim.Native.Nat.{◌-◌}
use lib.ListN.{length}
use Rattle.attributes.proofs.Walk.{Walk}
use Rattle.attributes.proofs.read.Given as goal

abbrev pub invariant-loop-at : goal.invariant-loop-at
invariant-loop-at l = Walk l.block l.seen l.layout l.at

abbrev pub decreases-loop-at : goal.decreases-loop-at
decreases-loop-at l = length l.block - l.at
