-- `turned_size` meets its contract: the attribute as it goes out in place of the attribute.
use mathlib.Core.Path.{refl, sym, ap, ◌∙◌}
use mathlib.Core.List.{List}
use Prim.Native.Nat.{ℕ}
use native.Mathlib.Omega.{arith}
use lib.ListN.{length}
use borrow.Author.Tests.{eq-eqb, ne_eqb}
use Rattle.rules.specs.Bytes.{part}
use Rattle.octets.proofs.Slices.{part-is, part_length}
use Rattle.rewriting.specs.Plan.{left_of, turned_size}
use Rattle.rewriting.proofs.planner.turned_size.Goals as goal

pub returns-then-k-eq0 : goal.returns-then-k-eq0
unfolding turned_size
returns-then-k-eq0 c = (λ d e. rw (eq-eqb c.args.k 0 c.if-k-eq0.true) refl, omega (arith, c.requires.small))

pub overflow_add-at : goal.overflow_add-at
overflow_add-at c = omega (arith, c.requires.within c.if-k-eq0.false)

pub slice_bounds-community_size-end : goal.slice_bounds-community_size-end
slice_bounds-community_size-end c = omega (arith, c.requires.within c.if-k-eq0.false)

pub community_size-size-requires : goal.community_size-size-requires
unfolding part
community_size-size-requires c = let h = c.if-k-eq0.false in
    let n = part_length c.args.block.now c.args.at c.args.k (c.requires.within h) in
    (rw (part-is c.args.block.now c.args.at c.args.k) (c.requires.whole h), omega (arith, n, c.requires.few h), omega (arith, n, c.requires.small, c.requires.within h))

pub overflow_sub-result : goal.overflow_sub-result
overflow_sub-result c = omega (arith, c.requires.within c.if-k-eq0.false)

pub overflow_add-result : goal.overflow_add-result
overflow_add-result c = let h = c.if-k-eq0.false in
    record { fits = omega (arith, c.requires.small, c.requires.few h, c.requires.within h, c.community_size-size.ensures.1) }

pub returns : goal.returns
unfolding turned_size part
returns c = let h = c.if-k-eq0.false in
    let q = part-is c.args.block.now c.args.at c.args.k in (
      λ d e. rw (ne_eqb c.args.k 0 h, ← q) (omega (arith, c.community_size-size.ensures.0 d (e h ∙ ap (λ (a : List ℕ). length (left_of d a)) (sym q)))),
      omega (arith, c.requires.small, c.requires.few h, c.requires.within h, c.community_size-size.ensures.1),
    )
