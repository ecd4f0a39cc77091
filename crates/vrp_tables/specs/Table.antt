-- What checking a table answers.
use Rattle.std.specs.Prelude.{ℕ, List, length}
use Rattle.rules.specs.Answers.{Answer, answer, order}
use Rattle.rules.specs.Origin.{vrps, table_checks}

-- 01, "Origin state": how many VRPs a table has, unless its length is wrong (6) or one is bad (9).
unfoldable pub table_check : ℕ → List ℕ → Answer ℕ
table_check w table = answer order (table_checks w table) (length (vrps w table))
