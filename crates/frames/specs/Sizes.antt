-- The size of what frames give, which src/sizes.rt names for the code.
use Rattle.std.specs.Prelude.{ℕ, ◌+◌}
use Rattle.rules.specs.Settings.{block_max}

-- The bytes of the longest result, a state and a block.
abbrev pub result_max : ℕ
result_max = 1 + block_max
