-- The first number, or the second.
use mathlib.Core.Bool.{or-false}
use borrow.Author.Tests.{eq-eqb, ne_eqb}
use Rattle.rules.specs.Bytes.{exists, one_of}
use Rattle.settings.proofs.flags.one_of_two.Goals as goal

pub returns-then-n-a : goal.returns-then-n-a
unfolding one_of exists
returns-then-n-a c = rw (eq-eqb _ _ c.if-n-a.true)

pub returns-else-n-a : goal.returns-else-n-a
unfolding one_of exists
returns-else-n-a c = rw (ne_eqb _ _ c.if-n-a.false, or-false)
