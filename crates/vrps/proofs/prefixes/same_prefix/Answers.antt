-- `same_prefix` meets its contract. The loop's invariant is that of a walk that has come to word k.
use native.Mathlib.Omega.{arith}
use Rattle.vrps.proofs.Words.{walked_start, walked-room, walked_differs, walked_next, walked_last}
use Rattle.vrps.proofs.prefixes.same_prefix.Goals as goal

pub loop-left-init : goal.loop-left-init
loop-left-init c = walked_start _ _ _ c.requires.0

pub returns-then-number4_at-word : goal.returns-then-number4_at-word
returns-then-number4_at-word c = walked_differs _ _ _ c.requires.0 (λ j. (c.shared_slice_known-1.given j).fits) (omega arith, omega arith, omega arith, omega arith) c.loop-left.invariant
    c.number4_at.ensures c.word.ensures c.if-number4_at-word.true (omega arith)

pub loop-left-preserved : goal.loop-left-preserved
loop-left-preserved c = walked_next _ _ _ c.requires.0 (λ j. (c.shared_slice_known-1.given j).fits) (omega arith, omega arith, omega arith, omega arith) c.loop-left.invariant
    c.number4_at.ensures c.word.ensures c.if-number4_at-word.false (omega arith) c.requires.1

pub number4_at-requires : goal.number4_at-requires
number4_at-requires c = walked-room _ _ _ c.requires.0 c.loop-left.invariant

pub number4_at-requires-2 : goal.number4_at-requires-2
number4_at-requires-2 c = walked-room _ _ _ c.requires.0 c.loop-left.invariant

pub returns : goal.returns
returns c = walked_last _ _ _ c.requires.0 (λ j. (c.shared_slice_known-1.given j).fits) (omega arith, omega arith, omega arith, omega arith) c.loop-left.invariant
    c.number4_at-2.ensures c.word-2.ensures (omega arith) c.same_leading.ensures
