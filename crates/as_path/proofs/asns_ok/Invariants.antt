-- The loop's invariant: whether the ASNs left pass the test is whether all do.
use mathlib.Core.Path.{◌≡◌}
use lib.Dec.{leb}
use Rattle.std.specs.Slice.Iter.{chunks_exact_rest, chunks_exact_size}
use Rattle.rules.specs.Bytes.{every}
use Rattle.rules.specs.Attributes.{asns}
use Rattle.as_path.proofs.Segments.{asns_of}
use Rattle.as_path.proofs.asns_ok.Given as goal

abbrev pub invariant-loop-asn : goal.invariant-loop-asn
invariant-loop-asn l = (chunks_exact_size l.asn-iterator ≡ 4) × (every (leb 1) (asns_of (chunks_exact_rest l.asn-iterator)) ≡ every (leb 1) (asns l.g))
