-- The first number, or one of the other two.
use borrow.Author.Tests.{eq-eqb, ne_eqb}
use Rattle.rules.specs.Bytes.{exists, one_of}
use Rattle.settings.proofs.flags.one_of_three.Goals as goal

pub returns-then-n-a : goal.returns-then-n-a
unfolding one_of exists
returns-then-n-a c = rw (eq-eqb _ _ c.if-n-a.true)

pub returns-else-n-a : goal.returns-else-n-a
unfolding one_of exists
returns-else-n-a c = rw (ne_eqb _ _ c.if-n-a.false) c.one_of_two.ensures
