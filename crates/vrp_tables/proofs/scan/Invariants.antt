-- `scan` meets its contract, by the laws of a scan. The loop's invariant is that of a scan that has so many bytes left; so is the measure.
use Prim.Native.Nat.{◌<◌}
use mathlib.Core.Path.{◌≡◌}
use lib.ListN.{length}
use Rattle.std.specs.Slice.Iter.{chunks_exact_rest, chunks_exact_size}
use Rattle.rules.specs.Origin.{vrp_size, prefix_in, told_origin}
use Rattle.vrps.specs.Widths.{bits}
use Rattle.vrp_tables.proofs.Scans.{Scanning}
use Rattle.vrp_tables.proofs.scan.Given as goal

abbrev pub invariant-loop-record : goal.invariant-loop-record
invariant-loop-record l = (chunks_exact_size l.records ≡ vrp_size (bits l.family)) × (0 < chunks_exact_size l.records)
    × Scanning (bits l.family) l.table (prefix_in (bits l.family) l.prefix) l.len (told_origin l.origin) l.covered (chunks_exact_rest l.records)

abbrev pub decreases-loop-record : goal.decreases-loop-record
decreases-loop-record l = length (chunks_exact_rest l.records)
