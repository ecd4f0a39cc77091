-- `read_tags` meets its contract. The loop's invariant: the state told so far, and the communities that are left, give the state; and the
-- number so far, and theirs, the number.
use mathlib.Core.Path.{sym, ap, ◌∙◌}
use mathlib.Core.List.{foldl}
use native.Mathlib.Nat.{zero-add}
use native.Mathlib.Omega.{arith}
use Rattle.std.specs.Slice.Iter.{chunks_exact_rest}
use Rattle.rules.specs.Changes.{communities}
use Rattle.communities.specs.Received.{with_community}
use Rattle.communities.proofs.Walked.{walked-length, walked-next, walked-end}
use Rattle.communities.proofs.Tagged.{tags_start, tags-next, tags-end}
use Rattle.communities.proofs.Thrown.{thrown-count, thrown-end}
use Rattle.communities.proofs.received.read_tags.Goals as goal

pub loop-c-init : goal.loop-c-init
loop-c-init c =
    let n = c.chunks_exact-c-items.ensures in
    let g = c.into_iter-c-iterator.ensures.into_iter_gives in
    rw (g, n.rest) (n.size, omega arith, tags_start c.args.v.now, zero-add _)

pub loop-c-preserved : goal.loop-c-preserved
loop-c-preserved c =
    let w = walked-next c.loop-c.c-iterator c.next.new.self c.loop-c.invariant.0 c.in-Some.c c.in-Some.ensures.steps in
    let m = c.read_one-tags.ensures in (
      c.in-Some.ensures.steps.0 ∙ c.loop-c.invariant.0,
      omega (arith, m.thrown.most, walked-length w),
      ap (λ s. foldl with_community s (communities (chunks_exact_rest c.next.new.self))) m.state ∙ sym (tags-next c.loop-c.tags.state w) ∙ c.loop-c.invariant.2,
      thrown-count w c.loop-c.invariant.3 m.thrown,
    )

pub returns : goal.returns
returns c =
    let short = walked-end c.loop-c.c-iterator c.next.new.self c.loop-c.invariant.0 c.in-None.ensures.steps in
    let rest = chunks_exact_rest c.loop-c.c-iterator in (
      sym (tags-end c.loop-c.tags.state rest short) ∙ c.loop-c.invariant.2,
      omega (arith, thrown-end rest short),
    )
