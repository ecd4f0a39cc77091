-- `first_bad` meets its contract, by the laws of a table. The loop's invariant is that of a search that has so many bytes left.
use Prim.Native.Nat.{◌<◌}
use mathlib.Core.Path.{◌≡◌}
use Rattle.std.specs.Slice.Iter.{chunks_exact_rest, chunks_exact_size}
use Rattle.std.specs.Iterator.Adapters.{enumerate_source, enumerate_count}
use Rattle.rules.specs.Origin.{vrp_size}
use Rattle.vrps.specs.Widths.{bits}
use Rattle.vrp_tables.proofs.Tables.{Checking}
use Rattle.vrp_tables.proofs.first_bad.Given as goal

abbrev pub invariant-loop-index : goal.invariant-loop-index
invariant-loop-index l = (chunks_exact_size (enumerate_source l.index-iterator) ≡ vrp_size (bits l.family)) × (0 < chunks_exact_size (enumerate_source l.index-iterator))
    × Checking (bits l.family) l.table (chunks_exact_rest (enumerate_source l.index-iterator)) (enumerate_count l.index-iterator)
