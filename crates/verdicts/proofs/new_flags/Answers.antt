-- Of an own route, and of another.
use mathlib.Core.Path.{refl}
use Rattle.rules.specs.Changes.{new_flags}
use Rattle.verdicts.proofs.new_flags.Goals as goal

pub returns-then-own : goal.returns-then-own
unfolding new_flags
returns-then-own c = rw c.if-own.true refl

pub returns : goal.returns
unfolding new_flags
returns c = rw c.if-own.false refl
