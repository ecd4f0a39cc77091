-- The loop's invariant: what is counted and the length of the path that is left make the length of the path, which is at most its bytes.
-- The measure is the bytes left.
use mathlib.Core.Path.{ap}
use native.Mathlib.Omega.{arith}
use lib.ListN.{length, length-append}
use Rattle.as_path.proofs.Segments.{segment_least, path_length-item, path_length-next, path_length-none}
use Rattle.as_path.proofs.path_length.Goals as goal

pub loop-segment-init : goal.loop-segment-init
loop-segment-init c = (omega arith, omega arith)

pub segment_length-total-requires : goal.segment_length-total-requires
segment_length-total-requires c = segment_least c.in-Some.segment.now c.in-Some.after.now c.in-Some.ensures

pub overflow_add-total : goal.overflow_add-total
overflow_add-total c = let segment = c.in-Some.segment.now in
    let after = c.in-Some.after.now in
    omega (arith, c.segment_length-total.ensures, path_length-item segment after c.in-Some.ensures, ap length c.in-Some.ensures.is, length-append segment after, c.loop-segment.invariant.1)

pub loop-segment-smaller : goal.loop-segment-smaller
loop-segment-smaller c = let segment = c.in-Some.segment.now in
    let after = c.in-Some.after.now in
    omega (arith, ap length c.in-Some.ensures.is, length-append segment after, segment_least segment after c.in-Some.ensures)

pub loop-segment-preserved : goal.loop-segment-preserved
loop-segment-preserved c = let segment = c.in-Some.segment.now in
    let after = c.in-Some.after.now in
    let counted = c.segment_length-total.ensures in (
      omega (arith, counted, path_length-next segment after c.in-Some.ensures, c.loop-segment.invariant.0),
      omega (arith, counted, path_length-item segment after c.in-Some.ensures, ap length c.in-Some.ensures.is, length-append segment after, c.loop-segment.invariant.1),
    )

pub returns : goal.returns
returns c = omega (arith, path_length-none c.loop-segment.rest.now c.in_default.ensures, c.loop-segment.invariant.0)
