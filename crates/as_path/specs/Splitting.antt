-- The segment that an AS_PATH begins with, taken off it.
use Rattle.std.specs.Prelude.{◌≡◌, List, ℕ, ◌++◌, length}
use Rattle.rules.specs.Attributes.{segment_size}

-- A path is a segment, as long as its own bytes say, and the path after it.
pub record Split (path segment after : List ℕ) : Type 0 where
  pub is : path ≡ segment ++ after
  pub size : length segment ≡ segment_size path
