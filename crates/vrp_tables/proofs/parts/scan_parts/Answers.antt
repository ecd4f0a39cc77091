-- `scan_parts` meets its contract, by the law of the state over parts.
use Prim.Native.Nat.{ℕ, ◌*◌}
use mathlib.Core.Path.{ap, ◌∙◌}
use native.Mathlib.Omega.{arith}
use Rattle.std.specs.Slice.Iter.{chunks_rest, chunks_size}
use Rattle.vrp_tables.proofs.Parting.{parted_start, parted_end, parted_good, parted_valid, parted_found, parted_other, part_size}
use Rattle.vrp_tables.proofs.parts.scan_parts.Goals as goal

pub loop-part-init : goal.loop-part-init
loop-part-init c = let begun = c.into_iter-part-iterator.ensures.into_iter_gives in
    let size = ap chunks_size begun ∙ c.chunks-part-items.ensures.size in
    (size ∙ ap (λ (n : ℕ). 1024 * n) c.record_size-full.ensures.0, omega (arith, size), parted_start (ap chunks_rest begun ∙ c.chunks-part-items.ensures.rest))

pub scan-state-requires : goal.scan-state-requires
scan-state-requires c = let i = c.loop-part.invariant in
    let next = c.in-Some.ensures.steps.1 in
    parted_good i.2 _ (part_size _ i.0) c.in-Some.part.now (chunks_rest c.next.new.self) next.0 next.1 next.2 c.requires

pub returns-then-state-eq-VALID : goal.returns-then-state-eq-VALID
returns-then-state-eq-VALID c = let i = c.loop-part.invariant in
    let next = c.in-Some.ensures.steps.1 in
    parted_valid i.2 _ (part_size _ i.0) c.in-Some.part.now (chunks_rest c.next.new.self) next.0 next.1 next.2 c.scan-state.ensures c.if-state-eq-VALID.true

pub loop-part-preserved-then-state-ne-NOT_FOUND : goal.loop-part-preserved-then-state-ne-NOT_FOUND
loop-part-preserved-then-state-ne-NOT_FOUND c = let i = c.loop-part.invariant in
    let next = c.in-Some.ensures.steps.1 in
    let same = c.in-Some.ensures.steps.0 in (
      same ∙ i.0,
      omega (arith, same, i.1),
      parted_other i.2 _ (part_size _ i.0) c.in-Some.part.now (chunks_rest c.next.new.self) next.0 next.1 next.2 c.scan-state.ensures c.if-state-eq-VALID.false c.if-state-ne-NOT_FOUND.true,
    )

pub loop-part-preserved : goal.loop-part-preserved
loop-part-preserved c = let i = c.loop-part.invariant in
    let next = c.in-Some.ensures.steps.1 in
    let same = c.in-Some.ensures.steps.0 in (
      same ∙ i.0,
      omega (arith, same, i.1),
      parted_found i.2 _ (part_size _ i.0) c.in-Some.part.now (chunks_rest c.next.new.self) next.0 next.1 next.2 c.scan-state.ensures c.if-state-eq-VALID.false c.if-state-ne-NOT_FOUND.false,
    )

pub returns : goal.returns
returns c = parted_end c.loop-part.invariant.2 c.in-None.ensures.steps.1.0
