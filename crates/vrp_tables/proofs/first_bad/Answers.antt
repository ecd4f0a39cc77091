-- `first_bad` meets its contract, by the laws of a table.
use mathlib.Core.Path.{sym, ap, ◌∙◌}
use native.Mathlib.Omega.{arith}
use Rattle.std.specs.Slice.Iter.{chunks_exact_rest, chunks_exact_size}
use Rattle.std.specs.Iterator.Adapters.{enumerate_source, enumerate_count}
use Rattle.vrps.specs.Widths.{bits}
use Rattle.vrp_tables.proofs.Tables.{table_start, bad-here, bad-next, bad-end}
use Rattle.vrp_tables.proofs.first_bad.Goals as goal

pub loop-index-init : goal.loop-index-init
loop-index-init c = let a = c.args in
    let begun = c.into_iter-index-iterator.ensures.into_iter_gives in
    let source = ap enumerate_source begun ∙ c.enumerate-index-items.ensures.source in
    let size = ap chunks_exact_size source ∙ c.chunks_exact.ensures.size in (
      size ∙ c.record_size-size.ensures.0,
      omega (arith, size),
      rw (ap enumerate_count begun ∙ c.enumerate-index-items.ensures.count)
          (table_start (bits a.family) a.table.now c.requires (ap chunks_exact_rest source ∙ c.chunks_exact.ensures.rest)),
    )

pub bad_vrp-requires : goal.bad_vrp-requires
bad_vrp-requires c = c.in-Some.ensures.steps.0.1.1 ∙ c.loop-index.invariant.0

pub returns-then-bad_vrp : goal.returns-then-bad_vrp
returns-then-bad_vrp c = let i = c.loop-index.invariant in
    let next = c.in-Some.ensures.steps.0.1 in
    rw c.in-Some.ensures.steps.1
    (bad-here i.2 c.in-Some.record.now (chunks_exact_rest (enumerate_source c.next.new.self)) next.0 (next.1 ∙ i.0) (sym c.bad_vrp.ensures ∙ c.if-bad_vrp.true))

pub loop-index-preserved : goal.loop-index-preserved
loop-index-preserved c = let i = c.loop-index.invariant in
    let next = c.in-Some.ensures.steps.0.1 in
    let same = c.in-Some.ensures.steps.0.0 in (
      same ∙ i.0,
      omega (arith, same, i.1),
      rw c.in-Some.ensures.steps.2
          (bad-next i.2 c.in-Some.record.now (chunks_exact_rest (enumerate_source c.next.new.self)) next.0 (next.1 ∙ i.0) (sym c.bad_vrp.ensures ∙ c.if-bad_vrp.false)),
    )

pub returns : goal.returns
returns c = let i = c.loop-index.invariant in
    rw c.record_size-size.ensures.0 (bad-end i.2 (omega (arith, i.0, c.in-None.ensures.steps.0.1.0)))
