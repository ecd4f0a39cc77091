-- `read_one` meets its contract: no tag, a tag above 2, or one that tells a state.
use mathlib.Core.Path.{sym, ◌∙◌}
use native.Mathlib.Omega.{arith}
use Rattle.communities.proofs.Tagged.{with-other, with-erroneous, with_tag}
use Rattle.communities.proofs.Thrown.{other_unthrown, thrown-one, thrown-none}
use Rattle.communities.proofs.received.read_one.Goals as goal

pub is_tag-requires : goal.is_tag-requires
is_tag-requires c = omega (arith, c.requires.0)

pub bounds-c-7 : goal.bounds-c-7
bounds-c-7 c = omega (arith, c.requires.0)

pub returns-then-not-is_tag : goal.returns-then-not-is_tag
returns-then-not-is_tag c = let z = sym c.is_tag.ensures ∙ c.if-not-is_tag.true in
    record { state = sym (with-other _ _ z); thrown = thrown-none _ _ (other_unthrown _ z) }

pub returns-then-is_erroneous : goal.returns-then-is_erroneous
returns-then-is_erroneous c = let z = sym c.is_erroneous.ensures ∙ c.if-is_erroneous.true in
    record { state = sym (with-erroneous _ _ z); thrown = thrown-one _ _ z }

pub returns : goal.returns
returns c = let z = sym c.is_erroneous.ensures ∙ c.if-is_erroneous.false in
    record {
      state = c.greater_of.ensures ∙ sym (with_tag _ c.args.c.now z (sym c.is_tag.ensures ∙ c.if-not-is_tag.false));
      thrown = thrown-none _ _ z;
    }
