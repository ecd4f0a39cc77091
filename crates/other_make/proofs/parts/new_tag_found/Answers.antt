-- `new_tag_found` meets its contract: communities left or no state, no attribute; else one.
use mathlib.Core.Path.{refl, ◌∙◌}
use mathlib.Core.Bool.{and-false}
use native.Mathlib.Omega.{arith}
use lib.Dec.{eqb}
use borrow.Author.Tests.{eq-eqb, ne_eqb, le-leb, lt-leb}
use Rattle.rules.specs.Attributes.{attributes, communities_type}
use Rattle.rules.specs.Changes.{tag, new_attribute}
use Rattle.rules.proofs.Communities.{drop_nil}
use Rattle.communities.specs.declared.tags.Dropping.TheVariants.{AllTags}
use Rattle.communities.specs.Tags.{drop_test}
use Rattle.communities.proofs.Told.{tag-told}
use Rattle.rewriting.specs.Plan.{new_tags}
use Rattle.other_make.proofs.Lookups.{looked-form}
use Rattle.other_make.proofs.Finds.{finds_one, finds_none}
use Rattle.other_make.proofs.parts.new_tag_found.Goals as goal

pub returns-then-left-ne0 : goal.returns-then-left-ne0
unfolding new_tags
returns-then-left-ne0 c = rw (ne_eqb c.args.left 0 c.if-left-ne0.true) (finds_none (attributes c.args.sent.now) c.args.so_far)

pub returns-then-state-gt-INVALID : goal.returns-then-state-gt-INVALID
unfolding new_tags
returns-then-state-gt-INVALID c = rw (lt-leb c.args.state 2 c.if-state-gt-INVALID.true, and-false (eqb c.args.left 0)) (finds_none (attributes c.args.sent.now) c.args.so_far)

pub returns : goal.returns
unfolding new_tags new_attribute tag
returns c = let theirs = attributes c.args.sent.now in
    rw (eq-eqb c.args.left 0 c.if-left-ne0.false, le-leb c.args.state 2 (omega (arith, c.if-state-gt-INVALID.false)))
    (finds_one theirs c.args.so_far (new_attribute c.args.flags communities_type (tag c.args.state)) c.then_some.ensures
    (c.look_up_left.ensures ∙ looked-form theirs _ _ refl refl (rw (drop_nil (drop_test AllTags)) (tag-told c.args.state (omega (arith, c.if-state-gt-INVALID.false))))))
