-- `disagrees` meets its contract, by what was met.
use Rattle.opening.proofs.disagrees.Goals as goal

pub returns-in-Absent : goal.returns-in-Absent
returns-in-Absent c = rw c.in-Absent.is

pub returns-in-One : goal.returns-in-One
returns-in-One c = simp (c.in-One.is, c.remote_role.ensures)
