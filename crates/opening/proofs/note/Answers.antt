-- `note` meets its contract, by what was met before.
use borrow.Author.Tests.{eq-eqb, ne_eqb}
use Rattle.opening.proofs.note.Goals as goal

pub returns-in-Absent : goal.returns-in-Absent
returns-in-Absent c = rw c.in-Absent.is

pub returns-then-first-role : goal.returns-then-first-role
returns-then-first-role c = rw (c.in-One.is, eq-eqb _ _ c.if-first-role.true)

pub returns-else-first-role : goal.returns-else-first-role
returns-else-first-role c = rw (c.in-One.is, ne_eqb _ _ c.if-first-role.false)
