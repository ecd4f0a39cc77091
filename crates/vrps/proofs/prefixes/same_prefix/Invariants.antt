-- `same_prefix` meets its contract. The loop's invariant is that of a walk that has come to word k.
use Rattle.vrps.proofs.Words.{Walked}
use Rattle.vrps.proofs.prefixes.same_prefix.Given as goal

abbrev pub invariant-loop-left : goal.invariant-loop-left
invariant-loop-left l = Walked l.bytes l.prefix l.n l.k l.left

abbrev pub decreases-loop-left : goal.decreases-loop-left
decreases-loop-left l = l.left
