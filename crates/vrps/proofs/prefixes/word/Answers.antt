-- `word` meets its contract, by its arms.
use mathlib.Core.Path.{refl}
use native.Mathlib.Omega.{arith}
use Rattle.vrps.specs.Widths.{word_in}
use Rattle.vrps.proofs.Words.{word_fourth}
use Rattle.vrps.proofs.prefixes.word.Goals as goal

pub returns-in-0 : goal.returns-in-0
unfolding word_in
returns-in-0 c = rw c.in-0.is refl

pub returns-in-1 : goal.returns-in-1
unfolding word_in
returns-in-1 c = rw c.in-1.is refl

pub returns-in-2 : goal.returns-in-2
unfolding word_in
returns-in-2 c = rw c.in-2.is refl

pub returns-in_default : goal.returns-in_default
returns-in_default c = word_fourth _ _ (λ z. omega arith) (λ z. omega arith) (λ z. omega arith)
