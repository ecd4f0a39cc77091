-- `all_turned_found` meets its contract. The loop's invariant: so far all are found, and what is to come is the rest.
use Prim.Native.Nat.{◌-◌}
use lib.ListN.{length}
use Rattle.rules.specs.Attributes.{attributes}
use Rattle.other_make.proofs.Finds.{Finding}
use Rattle.other_make.proofs.parts.all_turned_found.Given as goal

abbrev pub invariant-loop-at : goal.invariant-loop-at
invariant-loop-at l = Finding l.block l.left l.state (attributes l.sent) l.at l.so_far

abbrev pub decreases-loop-at : goal.decreases-loop-at
decreases-loop-at l = length l.block - l.at
