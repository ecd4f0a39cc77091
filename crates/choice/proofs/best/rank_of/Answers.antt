-- `rank_of` meets its contract.
use Rattle.choice.proofs.Ordering.{rank-one, rank-class, class_last}
use mathlib.Core.Path.{refl}
use native.Mathlib.Omega.{arith}
use Rattle.choice.proofs.best.rank_of.Goals as goal

pub returns-then-mode-ne-PRIORITISE : goal.returns-then-mode-ne-PRIORITISE
returns-then-mode-ne-PRIORITISE c = rank-one _ _ c.if-mode-ne-PRIORITISE.true

pub returns-in-0 : goal.returns-in-0
returns-in-0 c = rank-class _ _ c.if-mode-ne-PRIORITISE.false (rw c.in-0.is refl)

pub returns-in-1 : goal.returns-in-1
returns-in-1 c = rank-class _ _ c.if-mode-ne-PRIORITISE.false (rw c.in-1.is refl)

pub returns-in-3 : goal.returns-in-3
returns-in-3 c = rank-class _ _ c.if-mode-ne-PRIORITISE.false (rw c.in-3.is refl)

pub returns-in_default : goal.returns-in_default
returns-in_default c = rank-class _ _ c.if-mode-ne-PRIORITISE.false (class_last _ (λ z. omega arith) (λ z. omega arith) (λ z. omega arith))
