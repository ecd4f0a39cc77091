-- `same_bytes` meets its contract. The loop's invariant: `same` and what is left to compare make up the whole.
use Rattle.octets.proofs.Same.{Same}
use Rattle.octets.proofs.same_bytes.Given as goal

abbrev pub invariant-loop-i : goal.invariant-loop-i
invariant-loop-i l = Same l.s l.t l.same l.i
