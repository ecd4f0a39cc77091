-- `decode` meets its contract. The loop's invariant: all is stored but what the pairs left spell.
use mathlib.Core.Path.{ap, ◌∙◌}
use native.Mathlib.Omega.{arith}
use Rattle.std.specs.Slice.Iter.{chunks_exact_rest, chunks_exact_size}
use Rattle.std.specs.Iterator.Adapters.{enumerate_source, enumerate_count}
use Rattle.text.proofs.Spelling.{decoding_start, decoding_room, decoding_step, decoding_end, pair_high, pair_low, pair_none}
use Rattle.text.proofs.hex.decode.Goals as goal

pub loop-n-init : goal.loop-n-init
loop-n-init c =
    let begun = c.into_iter-n-iterator.ensures.into_iter_gives in
    let source = ap enumerate_source begun ∙ c.enumerate-n-items.ensures.source in (
      ap chunks_exact_size source ∙ c.chunks_exact.ensures.size,
      rw (ap enumerate_count begun ∙ c.enumerate-n-items.ensures.count, ap chunks_exact_rest source ∙ c.chunks_exact.ensures.rest)
          (decoding_start c.args.line.now c.args.raw.now c.requires.1),
    )

pub returns-then-high-gt15 : goal.returns-then-high-gt15
returns-then-high-gt15 c = let i = c.loop-n.invariant in
    let pair = c.in-Some.ensures.steps.0.1 in
    decoding_end i.1 (pair_high c.in-Some.pair.now (chunks_exact_rest (enumerate_source c.next.new.self)) pair.0 (pair.1 ∙ i.0) (omega (arith, c.if-high-gt15.true, c.digit_of-high.ensures.0)))

pub returns-then-low-gt15 : goal.returns-then-low-gt15
returns-then-low-gt15 c = let i = c.loop-n.invariant in
    let pair = c.in-Some.ensures.steps.0.1 in
    decoding_end i.1
    (pair_low c.in-Some.pair.now (chunks_exact_rest (enumerate_source c.next.new.self)) pair.0 (pair.1 ∙ i.0) (omega (arith, c.if-high-gt15.false, c.digit_of-high.ensures.0)) (omega (arith, c.if-low-gt15.true, c.digit_of-low.ensures.0)))

pub bounds-raw-n : goal.bounds-raw-n
bounds-raw-n c = let i = c.loop-n.invariant in
    let step = c.in-Some.ensures.steps in
    rw step.1 (decoding_room i.1 c.in-Some.pair.now (chunks_exact_rest (enumerate_source c.next.new.self)) step.0.1.0 (step.0.1.1 ∙ i.0) c.requires.1)

pub loop-n-preserved : goal.loop-n-preserved
loop-n-preserved c = let i = c.loop-n.invariant in
    let step = c.in-Some.ensures.steps in
    let after = chunks_exact_rest (enumerate_source c.next.new.self) in
    let two = step.0.1.1 ∙ i.0 in
    let room = decoding_room i.1 c.in-Some.pair.now after step.0.1.0 two c.requires.1 in (
      step.0.0 ∙ i.0,
      rw (step.1, step.2)
          (decoding_step i.1 c.in-Some.pair.now after step.0.1.0 two room c.digit_of-high.ensures.0 c.digit_of-low.ensures.0 c.if-high-gt15.false c.if-low-gt15.false),
    )

pub returns : goal.returns
returns c = let i = c.loop-n.invariant in
    decoding_end i.1 (pair_none i.1 c.requires.0 (omega (arith, i.0, c.in-None.ensures.steps.0.1.0)))
