-- `feed` meets its contract. The loop's invariant: the bytes before `at` are fed, and the memory lent has its sizes.
use Prim.Native.Nat.{◌+◌, ◌≤◌, ◌<◌}
use mathlib.Core.Path.{refl, ◌∙◌}
use native.Mathlib.Omega.{arith}
use lib.ListN.{length}
use lib.Seq.{length-take-le}
use Rattle.octets.proofs.Slices.{tail_length}
use Rattle.desk_lines.proofs.Feeding.{feeding_start, feeding_on, feeding_end}
use Rattle.desk_lines.proofs.feed.Goals as goal

pub loop-at-init : goal.loop-at-init
loop-at-init c = (feeding_start c.args.out.now c.args.piece.now c.requires.0, c.requires.2, refl)

pub feed_line-progress-requires : goal.feed_line-progress-requires
feed_line-progress-requires c = let i = c.loop-at.invariant in (
  i.0.fed.consumed.ready,
  omega (arith, i.0.fed.consumed.count, length-take-le c.loop-at.at c.args.piece.now i.0.within, c.loop-at-test.true, c.requires.1),
  record { frame = i.1.frame; result = i.1.result; within = omega (arith, c.if-out-wrote-lt-ANSWER_MAX.false, i.1.within) },
)

pub overflow_add-at : goal.overflow_add-at
overflow_add-at c =
    let taken-within : c.loop-at.at + c.feed_line-progress.result.taken ≤ length c.args.piece.now =
    omega (arith, c.feed_line-progress.ensures.within, tail_length c.args.piece.now c.loop-at.at, c.loop-at.invariant.0.within) in
    omega (arith, taken-within)

pub loop-at-smaller : goal.loop-at-smaller
loop-at-smaller c =
    let taken-some : 0 < c.feed_line-progress.result.taken =
    c.feed_line-progress.ensures.some
    (omega (arith, tail_length c.args.piece.now c.loop-at.at, c.loop-at-test.true))
    (omega (arith, c.if-out-wrote-lt-ANSWER_MAX.false, c.loop-at.invariant.1.within)) in
    let taken-within : c.loop-at.at + c.feed_line-progress.result.taken ≤ length c.args.piece.now =
    omega (arith, c.feed_line-progress.ensures.within, tail_length c.args.piece.now c.loop-at.at, c.loop-at.invariant.0.within) in
    omega (arith, taken-some, taken-within)

pub loop-at-preserved : goal.loop-at-preserved
loop-at-preserved c =
    let taken-some : 0 < c.feed_line-progress.result.taken =
    c.feed_line-progress.ensures.some
    (omega (arith, tail_length c.args.piece.now c.loop-at.at, c.loop-at-test.true))
    (omega (arith, c.if-out-wrote-lt-ANSWER_MAX.false, c.loop-at.invariant.1.within)) in
    let i = c.loop-at.invariant in
    let k = c.feed_line-progress.auto in (
      feeding_on i.0 (omega (arith, c.requires.2.within)) taken-some c.feed_line-progress.ensures,
      record {
        frame = k.raw ∙ i.1.frame;
        result = k.made ∙ i.1.result;
        within = omega (arith, c.feed_line-progress.ensures.room, k.out);
      },
      k.out ∙ i.2,
    )

pub returns-after-loop-at : goal.returns-after-loop-at
returns-after-loop-at c = let i = c.loop-at.invariant in
    feeding_end i.0 (omega (arith, i.1.within, i.2)) (λ e w h k. omega (arith, e, h, c.loop-at-test.false))

pub returns-then-out-wrote-lt-ANSWER_MAX : goal.returns-then-out-wrote-lt-ANSWER_MAX
returns-then-out-wrote-lt-ANSWER_MAX c = let i = c.loop-at.invariant in
    feeding_end i.0 (omega (arith, i.1.within, i.2)) (λ e w h k. omega (arith, k, w, c.if-out-wrote-lt-ANSWER_MAX.true, i.2))
