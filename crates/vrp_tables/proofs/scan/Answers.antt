-- `scan` meets its contract, by the laws of a scan.
use mathlib.Core.Path.{◌∙◌}
use native.Mathlib.Omega.{arith}
use Rattle.std.specs.Slice.Iter.{chunks_exact_rest}
use Rattle.vrp_tables.proofs.Scans.{scan_start, scan_end, scan_good, scan_matches, scan_covers, scan_apart}
use Rattle.vrp_tables.proofs.scan.Goals as goal

pub loop-record-init : goal.loop-record-init
loop-record-init c = let records = c.chunks_exact-records.ensures in
    (records.size ∙ c.record_size.ensures.0, omega (arith, records.size), scan_start records.rest c.requires)

pub weigh-met-requires : goal.weigh-met-requires
weigh-met-requires c = let i = c.loop-record.invariant in
    let next = c.in-Some.ensures.steps.1 in
    (next.1 ∙ i.0, scan_good i.2 c.in-Some.record.now (chunks_exact_rest c.next.new.self) next.0 (next.1 ∙ i.0))

pub returns-in-Matches : goal.returns-in-Matches
returns-in-Matches c = let i = c.loop-record.invariant in
    let next = c.in-Some.ensures.steps.1 in
    scan_matches i.2 c.in-Some.record.now (chunks_exact_rest c.next.new.self) next.0 (next.1 ∙ i.0) c.weigh-met.ensures c.in-Matches.is

pub loop-record-preserved-in-Covers : goal.loop-record-preserved-in-Covers
loop-record-preserved-in-Covers c = let i = c.loop-record.invariant in
    let next = c.in-Some.ensures.steps.1 in
    let same = c.in-Some.ensures.steps.0 in
    (same ∙ i.0, omega (arith, same, i.1), scan_covers i.2 c.in-Some.record.now (chunks_exact_rest c.next.new.self) next.0 (next.1 ∙ i.0) c.weigh-met.ensures c.in-Covers.is)

pub loop-record-preserved : goal.loop-record-preserved
loop-record-preserved c = let i = c.loop-record.invariant in
    let next = c.in-Some.ensures.steps.1 in
    let same = c.in-Some.ensures.steps.0 in
    (same ∙ i.0, omega (arith, same, i.1), scan_apart i.2 c.in-Some.record.now (chunks_exact_rest c.next.new.self) next.0 (next.1 ∙ i.0) c.weigh-met.ensures c.in-Apart.is)

pub returns-then-covered : goal.returns-then-covered
returns-then-covered c = let i = c.loop-record.invariant in
    rw c.if-covered.true at (scan_end i.2 (omega (arith, i.0, c.in_default.ensures.steps.1.0)))

pub returns-else-covered : goal.returns-else-covered
returns-else-covered c = let i = c.loop-record.invariant in
    rw c.if-covered.false at (scan_end i.2 (omega (arith, i.0, c.in_default.ensures.steps.1.0)))
