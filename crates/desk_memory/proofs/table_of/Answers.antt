-- `table_of` meets its contract, by the family.
use Rattle.desk_memory.proofs.ByKind.{lent_4}
use Rattle.desk_memory.proofs.table_of.Goals as goal

pub returns-in-V4 : goal.returns-in-V4
returns-in-V4 c = rw c.in-V4.is (lent_4 c.requires)
