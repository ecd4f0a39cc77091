-- `same_left` meets its contract. The loop's invariant: what is left to compare is the same exactly where all is.
use mathlib.Core.Path.{sym, ap, ◌∙◌}
use native.Mathlib.Omega.{arith}
use Rattle.std.specs.Slice.Iter.{chunks_exact_rest, chunks_exact_size}
use Rattle.octets.proofs.Slices.{part_length}
use Rattle.communities.proofs.Matched.{matched_start, matched_end, matched_dropped, matched_short, matched_differs, matched_kept}
use Rattle.communities.proofs.Walked.{walked-next, walked-end}
use Rattle.communities.proofs.left.same_left.Goals as goal

pub loop-c-init : goal.loop-c-init
loop-c-init c =
    let n = c.chunks_exact-c-items.ensures in
    let g = c.into_iter-c-iterator.ensures.into_iter_gives in
    (ap chunks_exact_size g ∙ n.size, matched_start (ap chunks_exact_rest g ∙ n.rest))

pub loop-c-preserved-then-drops : goal.loop-c-preserved-then-drops
loop-c-preserved-then-drops c =
    let w = walked-next c.loop-c.c-iterator c.next.new.self c.loop-c.invariant.0 c.in-Some.c c.in-Some.ensures.steps in
    (c.in-Some.ensures.steps.0 ∙ c.loop-c.invariant.0, matched_dropped c.loop-c.invariant.1 w (sym c.drops.ensures ∙ c.if-drops.true))

pub returns-then-t-w-lt-COMMUNITY_SIZE : goal.returns-then-t-w-lt-COMMUNITY_SIZE
returns-then-t-w-lt-COMMUNITY_SIZE c =
    let w = walked-next c.loop-c.c-iterator c.next.new.self c.loop-c.invariant.0 c.in-Some.c c.in-Some.ensures.steps in
    matched_short c.loop-c.invariant.1 w (sym c.drops.ensures ∙ c.if-drops.false) c.if-t-w-lt-COMMUNITY_SIZE.true

-- Each of the two has eight bytes.
pub same_community-requires : goal.same_community-requires
same_community-requires c =
    let w = walked-next c.loop-c.c-iterator c.next.new.self c.loop-c.invariant.0 c.in-Some.c c.in-Some.ensures.steps in
    (w.eight, part_length c.args.t.now c.loop-c.w 8 (omega (arith, c.loop-c.invariant.1.room, c.if-t-w-lt-COMMUNITY_SIZE.false)))

pub returns-then-not-same_community : goal.returns-then-not-same_community
returns-then-not-same_community c =
    let w = walked-next c.loop-c.c-iterator c.next.new.self c.loop-c.invariant.0 c.in-Some.c c.in-Some.ensures.steps in
    matched_differs c.loop-c.invariant.1 w (sym c.drops.ensures ∙ c.if-drops.false) (omega (arith, c.if-t-w-lt-COMMUNITY_SIZE.false)) c.same_community.ensures c.if-not-same_community.true

pub loop-c-preserved : goal.loop-c-preserved
loop-c-preserved c =
    let w = walked-next c.loop-c.c-iterator c.next.new.self c.loop-c.invariant.0 c.in-Some.c c.in-Some.ensures.steps in (
      c.in-Some.ensures.steps.0 ∙ c.loop-c.invariant.0,
      matched_kept c.loop-c.invariant.1 w (sym c.drops.ensures ∙ c.if-drops.false) (omega (arith, c.if-t-w-lt-COMMUNITY_SIZE.false)) c.same_community.ensures c.if-not-same_community.false,
    )

pub returns : goal.returns
returns c =
    let short = walked-end c.loop-c.c-iterator c.next.new.self c.loop-c.invariant.0 c.in-None.ensures.steps in
    matched_end c.loop-c.invariant.1 short c.same_tag.ensures
