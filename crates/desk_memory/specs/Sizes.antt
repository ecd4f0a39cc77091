-- The sizes of the desk's tables, which src/sizes.rt names for the code.
use Rattle.std.specs.Prelude.{ℕ, ◌+◌, ◌*◌, ◌/◌}
use Rattle.rules.specs.Settings.{vrps_max}
use Rattle.rules.specs.Origin.{ipv4, ipv6}

-- The bytes of the longest table of VRPs whose prefixes have w bits, and of the memory for both tables.
abbrev pub table_max : ℕ → ℕ
table_max w = vrps_max * (w / 8 + 6)

abbrev pub tables_max : ℕ
tables_max = table_max ipv4 + table_max ipv6
