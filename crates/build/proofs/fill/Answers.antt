-- `fill` meets its contract.
use mathlib.Core.Path.{ap, ◌∙◌}
use native.Mathlib.Omega.{arith}
use lib.ListN.{length-set}
use Rattle.std.specs.Slice.Iter.{chunks_exact_rest, chunks_exact_size}
use Rattle.std.specs.Iterator.Adapters.{enumerate_source, enumerate_count}
use Rattle.build.proofs.Filling.{run_start, run_none, run-good, run-next, run-full, run_end}
use Rattle.build.proofs.fill.Goals as goal

pub returns-then-memory-lt-TRIPLE : goal.returns-then-memory-lt-TRIPLE
returns-then-memory-lt-TRIPLE c = run_none _ _ _ _ c.if-memory-lt-TRIPLE.true

pub loop-index-init : goal.loop-index-init
loop-index-init c =
    let begun = c.into_iter-index-iterator.ensures.into_iter_gives in
    let source = ap enumerate_source begun ∙ c.enumerate-index-items.ensures.source in
    let size = ap chunks_exact_size source ∙ c.chunks_exact.ensures.size in (
      size ∙ c.record_size.ensures.0,
      omega (arith, size),
      rw (ap enumerate_count begun ∙ c.enumerate-index-items.ensures.count)
          (run_start c.args.table.now c.args.memory.now c.if-memory-lt-TRIPLE.false c.requires.0 (ap chunks_exact_rest source ∙ c.chunks_exact.ensures.rest)),
    )

pub put-requires : goal.put-requires
put-requires c = let i = c.loop-index.invariant in
    let next = c.in-Some.ensures.steps.0.1 in
    (next.1 ∙ i.0, run-good i.2 c.in-Some.record.now (chunks_exact_rest (enumerate_source c.next.new.self)) next.0 (next.1 ∙ i.0))

pub returns-in_err-nodes : goal.returns-in_err-nodes
returns-in_err-nodes c = let i = c.loop-index.invariant in
    let next = c.in-Some.ensures.steps.0.1 in
    rw c.from_residual.ensures
    (run-full i.2 c.in-Some.record.now (chunks_exact_rest (enumerate_source c.next.new.self)) next.0 (next.1 ∙ i.0) c.requires.1
    (rw c.in-Some.ensures.steps.1 at c.put.ensures) c.in_err-nodes.was c.args.memory.now (simp length-set))

pub loop-index-preserved : goal.loop-index-preserved
loop-index-preserved c = let i = c.loop-index.invariant in
    let next = c.in-Some.ensures.steps.0.1 in
    let same = c.in-Some.ensures.steps.0.0 in (
      same ∙ i.0,
      omega (arith, same, i.1),
      rw c.in-Some.ensures.steps.2
          (run-next i.2 c.in-Some.record.now (chunks_exact_rest (enumerate_source c.next.new.self)) next.0 (next.1 ∙ i.0) c.requires.1
          (rw c.in-Some.ensures.steps.1 at c.put.ensures) c.in_ok-nodes.was c.put.auto.memory),
    )

pub returns : goal.returns
returns c = let i = c.loop-index.invariant in
    run_end i.2 (omega (arith, i.0, c.in-None.ensures.steps.0.1.0)) _
