-- `sift` meets its contract. The loop's invariant: what is found and what there is in what is left make up the whole, of both counts.
use mathlib.Core.Path.{ap, ◌∙◌}
use native.Mathlib.Nat.{zero-add}
use native.Mathlib.Omega.{arith}
use lib.ListN.{length}
use Rattle.std.specs.Slice.Iter.{chunks_exact_rest}
use Rattle.communities.specs.Tags.{drop_test}
use Rattle.communities.proofs.Dropped.{left-count, left_end}
use Rattle.communities.proofs.Thrown.{thrown-count, thrown-end}
use Rattle.communities.proofs.Walked.{walked-length, walked-next, walked-end}
use Rattle.communities.proofs.left.sift.Goals as goal

pub loop-c-init : goal.loop-c-init
loop-c-init c =
    let n = c.chunks_exact-c-items.ensures in
    let g = c.into_iter-c-iterator.ensures.into_iter_gives in
    rw (g, n.rest) (n.size, omega arith, omega arith, zero-add _, zero-add _)

pub loop-c-preserved : goal.loop-c-preserved
loop-c-preserved c =
    let w = walked-next c.loop-c.c-iterator c.next.new.self c.loop-c.invariant.0 c.in-Some.c c.in-Some.ensures.steps in
    let m = c.sift_one-sifted.ensures in (
      c.in-Some.ensures.steps.0 ∙ c.loop-c.invariant.0,
      omega (arith, m.most, walked-length w),
      omega (arith, m.thrown.most, walked-length w),
      left-count _ c.loop-c.sifted.left w c.loop-c.invariant.3 m.left,
      thrown-count w c.loop-c.invariant.4 m.thrown,
    )

pub returns : goal.returns
returns c =
    let short = walked-end c.loop-c.c-iterator c.next.new.self c.loop-c.invariant.0 c.in-None.ensures.steps in
    let rest = chunks_exact_rest c.loop-c.c-iterator in (
      omega (arith, ap length (left_end (drop_test c.args.dropping) rest short)),
      omega (arith, thrown-end rest short),
    )
