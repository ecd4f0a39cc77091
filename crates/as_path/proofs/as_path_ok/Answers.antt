-- The loop's invariant: the path that is left is well formed where the path is. The measure is the bytes left.
use mathlib.Core.Path.{refl, sym, ap, ◌∙◌}
use native.Mathlib.Omega.{arith}
use borrow.Author.Tests.{eqb-true, eqb-false}
use lib.ListN.{length, length-append}
use Rattle.as_path.proofs.Segments.{segment_least, path_torn, path_empty, path_bad, path-good}
use Rattle.as_path.proofs.as_path_ok.Goals as goal

pub loop-rest-init : goal.loop-rest-init
loop-rest-init c = refl

pub returns-in_default : goal.returns-in_default
returns-in_default c = sym (path_torn c.loop-rest.rest.now c.in_default.ensures (eqb-false (length c.loop-rest.rest.now) 0 (sym c.loop-rest-test.ensures))) ∙ c.loop-rest.invariant

pub segment_ok-requires : goal.segment_ok-requires
segment_ok-requires c = segment_least c.in-Some.segment.now c.in-Some.after.now c.in-Some.ensures

pub returns-then-not-segment_ok : goal.returns-then-not-segment_ok
returns-then-not-segment_ok c = sym (path_bad c.in-Some.segment.now c.in-Some.after.now c.in-Some.ensures c.segment_ok.ensures c.if-not-segment_ok.true) ∙ c.loop-rest.invariant

pub loop-rest-smaller : goal.loop-rest-smaller
loop-rest-smaller c = let segment = c.in-Some.segment.now in
    let after = c.in-Some.after.now in
    omega (arith, ap length c.in-Some.ensures.is, length-append segment after, segment_least segment after c.in-Some.ensures)

pub loop-rest-preserved : goal.loop-rest-preserved
loop-rest-preserved c = sym (path-good c.in-Some.segment.now c.in-Some.after.now c.in-Some.ensures c.segment_ok.ensures c.if-not-segment_ok.false) ∙ c.loop-rest.invariant

pub returns : goal.returns
returns c = sym (path_empty c.loop-rest.rest.now (eqb-true (length c.loop-rest.rest.now) 0 (sym c.loop-rest-test.ensures))) ∙ c.loop-rest.invariant
