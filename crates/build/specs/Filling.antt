-- The records of a table, put one after the other.
use Rattle.std.specs.Prelude.{ℕ, ◌+◌, ◌/◌, ◌<◌, ◌≡◌, List, length, Option, Some, None}
use Rattle.rules.specs.Origin.{vrps}
use Rattle.vrp_tree.specs.Tree.{parts_of, newest}
use Rattle.vrp_tree.specs.Memory.{Held}

-- They are in the index, with so many nodes, or there is no room for them.
pub record Filled (w : ℕ) (table t t' : List ℕ) (made : Option ℕ) : Type 0 where
  pub full : made ≡ None → length t / 3 < length (parts_of w (newest w table)) + length (vrps w table)
  pub held : (n : ℕ) → made ≡ Some n → Held w (newest w table) t'
  pub count : (n : ℕ) → made ≡ Some n → length (parts_of w (newest w table)) ≡ n
