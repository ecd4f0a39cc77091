-- `same_bytes` meets its contract. The loop's invariant: `same` and what is left to compare make up the whole.
use native.Mathlib.Omega.{arith}
use Rattle.octets.proofs.Same.{same_lengths, same_start, same_next, same_end}
use Rattle.octets.proofs.same_bytes.Goals as goal

pub returns-then-s-t : goal.returns-then-s-t
returns-then-s-t c = let a = c.args in same_lengths a.s.now a.t.now c.if-s-t.true

pub loop-i-init : goal.loop-i-init
loop-i-init c = same_start c.if-s-t.false

pub bounds-t-i : goal.bounds-t-i
bounds-t-i c = let l = c.loop-i in omega (arith, l.invariant.long, c.loop-i-test.true)

pub loop-i-preserved : goal.loop-i-preserved
loop-i-preserved c = same_next c.loop-i.invariant c.loop-i-test.true c.still_same-same.ensures

pub returns : goal.returns
returns c = same_end c.loop-i.invariant (omega arith)
