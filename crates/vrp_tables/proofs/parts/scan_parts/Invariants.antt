-- `scan_parts` meets its contract, by the law of the state over parts. The loop's invariant is that of a scan over parts that has so many
-- bytes left.
use Prim.Native.Nat.{◌*◌, ◌<◌}
use mathlib.Core.Path.{◌≡◌}
use Rattle.std.specs.Slice.Iter.{chunks_rest, chunks_size}
use Rattle.rules.specs.Origin.{vrp_size, prefix_in, told_origin}
use Rattle.vrps.specs.Widths.{bits}
use Rattle.vrp_tables.proofs.Parting.{Parted}
use Rattle.vrp_tables.proofs.parts.scan_parts.Given as goal

abbrev pub invariant-loop-part : goal.invariant-loop-part
invariant-loop-part l = (chunks_size l.part-iterator ≡ 1024 * vrp_size (bits l.family)) × (0 < chunks_size l.part-iterator)
    × Parted (bits l.family) l.table (prefix_in (bits l.family) l.prefix) l.len (told_origin l.origin) l.found (chunks_rest l.part-iterator)
