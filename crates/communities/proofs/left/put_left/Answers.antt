-- `put_left` meets its contract. The loop's invariant: all is stored but what is kept of what is left.
use mathlib.Core.Path.{◌∙◌}
use Rattle.std.specs.Slice.Iter.{chunks_exact_rest}
use Rattle.rules.specs.Changes.{drop_from}
use Rattle.octets.proofs.Writing.{writing_start, writing-rest, writing-room, writing_step, writing-end, writing-length}
use Rattle.communities.specs.Tags.{drop_test, kept}
use Rattle.communities.proofs.Dropped.{left_step, left_end}
use Rattle.communities.proofs.Walked.{walked-next, walked-end}
use Rattle.communities.proofs.left.put_left.Goals as goal

pub loop-c-init : goal.loop-c-init
loop-c-init c =
    let a = c.args in
    let n = c.chunks_exact-c-items.ensures in
    let g = c.into_iter-c-iterator.ensures.into_iter_gives in
    rw (g, n.rest) (n.size, writing_start a.out.now a.at (drop_from (drop_test a.dropping) a.v.now) c.requires)

pub put_kept-w-requires : goal.put_kept-w-requires
put_kept-w-requires c =
    let w = walked-next c.loop-c.c-iterator c.next.new.self c.loop-c.invariant.0 c.in-Some.c c.in-Some.ensures.steps in
    let d = drop_test c.args.dropping in
    (w.eight, writing-room (kept d c.in-Some.c.now) (drop_from d (chunks_exact_rest c.next.new.self)) (writing-rest c.loop-c.invariant.1 (left_step d w)))

pub loop-c-preserved : goal.loop-c-preserved
loop-c-preserved c =
    let w = walked-next c.loop-c.c-iterator c.next.new.self c.loop-c.invariant.0 c.in-Some.c c.in-Some.ensures.steps in
    (c.in-Some.ensures.steps.0 ∙ c.loop-c.invariant.0, writing_step (writing-rest c.loop-c.invariant.1 (left_step _ w)) c.put_kept-w.ensures)

pub shape_of-out : goal.shape_of-out
shape_of-out c = writing-length c.loop-c.invariant.1

pub returns : goal.returns
returns c =
    let short = walked-end c.loop-c.c-iterator c.next.new.self c.loop-c.invariant.0 c.in-None.ensures.steps in
    writing-end (writing-rest c.loop-c.invariant.1 (left_end _ (chunks_exact_rest c.loop-c.c-iterator) short))
