-- The loop's invariant: whether the ASNs left pass the test is whether all do.
use mathlib.Core.Path.{refl, sym, ap, ◌∙◌}
use native.Mathlib.Omega.{arith}
use Rattle.std.specs.Slice.Iter.{chunks_exact_rest, chunks_exact_size}
use Rattle.rules.specs.Attributes.{asns}
use Rattle.octets.proofs.Slices.{tail_is}
use Rattle.as_path.proofs.Segments.{asns_of, asns_bad, asns-good, asns_through}
use Rattle.as_path.proofs.asns_ok.Goals as goal

pub loop-asn-init : goal.loop-asn-init
unfolding asns asns_of
loop-asn-init c =
    let begun = c.into_iter-asn-iterator.ensures.into_iter_gives in
    let n = c.chunks_exact-asn-items.ensures in
    (ap chunks_exact_size begun ∙ n.size, rw (ap chunks_exact_rest begun ∙ n.rest, tail_is c.args.g.now 2) refl)

pub number4-requires : goal.number4-requires
number4-requires c = c.in-Some.ensures.steps.1.1 ∙ c.loop-asn.invariant.0

pub returns-then-number4-lt1 : goal.returns-then-number4-lt1
returns-then-number4-lt1 c = let step = c.in-Some.ensures.steps.1 in
    sym (asns_bad c.in-Some.asn.now (chunks_exact_rest c.next.new.self) step.0 (step.1 ∙ c.loop-asn.invariant.0) c.number4.ensures (omega arith)) ∙ c.loop-asn.invariant.1

pub loop-asn-preserved : goal.loop-asn-preserved
loop-asn-preserved c = let step = c.in-Some.ensures.steps.1 in (
  c.in-Some.ensures.steps.0 ∙ c.loop-asn.invariant.0,
  sym (asns-good c.in-Some.asn.now (chunks_exact_rest c.next.new.self) step.0 (step.1 ∙ c.loop-asn.invariant.0) c.number4.ensures (omega arith)) ∙ c.loop-asn.invariant.1,
)

pub returns : goal.returns
returns c = sym (asns_through (chunks_exact_rest c.loop-asn.asn-iterator) (omega (arith, c.loop-asn.invariant.0, c.in-None.ensures.steps.1.0))) ∙ c.loop-asn.invariant.1
