-- The loop's invariant: the origin so far, or the last of the segments that are left, gives the origin of the path. The measure is the bytes
-- left.
use mathlib.Core.Path.{sym, ap, ◌∙◌}
use mathlib.Core.List.{map}
use mathlib.Core.Option.{Option}
use Prim.Native.Nat.{ℕ}
use native.Mathlib.Omega.{arith}
use lib.ListN.{length, length-append}
use Rattle.rules.specs.Bytes.{last_or}
use Rattle.rules.specs.Attributes.{segments}
use Rattle.rules.specs.Origin.{final_origin, told_origin}
use Rattle.as_path.proofs.Segments.{segment_least, segment_whole, origin_last, origin-none, origin-next}
use Rattle.as_path.proofs.path_origin.Goals as goal

pub loop-segment-init : goal.loop-segment-init
unfolding told_origin
loop-segment-init c = sym (origin_last c.args.own (segments c.args.path.now))

pub final_origin-origin-requires : goal.final_origin-origin-requires
final_origin-origin-requires c = segment_whole c.in-Some.segment.now c.in-Some.after.now c.in-Some.ensures

pub loop-segment-smaller : goal.loop-segment-smaller
loop-segment-smaller c = let segment = c.in-Some.segment.now in
    let after = c.in-Some.after.now in
    omega (arith, ap length c.in-Some.ensures.is, length-append segment after, segment_least segment after c.in-Some.ensures)

pub loop-segment-preserved : goal.loop-segment-preserved
loop-segment-preserved c = let segment = c.in-Some.segment.now in
    let after = c.in-Some.after.now in
    ap (λ (o : Option ℕ). last_or o (map final_origin (segments after))) c.final_origin-origin.ensures
    ∙ sym (origin-next segment after c.in-Some.ensures (told_origin c.loop-segment.origin)) ∙ c.loop-segment.invariant

pub returns : goal.returns
returns c = sym (origin-none c.loop-segment.rest.now c.in_default.ensures (told_origin c.loop-segment.origin)) ∙ c.loop-segment.invariant
