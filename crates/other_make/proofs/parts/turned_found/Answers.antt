-- `turned_found` meets its contract: an attribute that stands as it is, communities of which none is left, and others.
use mathlib.Core.Path.{◌≡◌, refl, ◌∙◌}
use mathlib.Core.Bool.{true, false}
use borrow.Author.Tests.{eq-eqb, ne_eqb}
use Rattle.rules.specs.Attributes.{Attribute, attribute, attributes, is_type, communities_type}
use Rattle.other_make.proofs.Lookups.{looked-form}
use Rattle.other_make.proofs.Finds.{finds_one, finds_none, looked-other-type, turned-gone, turned_left, looked-left}
use Rattle.other_make.proofs.parts.turned_found.Goals as goal

pub returns-then-kind-ne-COMMUNITIES : goal.returns-then-kind-ne-COMMUNITIES
unfolding attribute is_type
returns-then-kind-ne-COMMUNITIES c =
    let ours : Attribute = attribute c.args.a.now in
    let other : is_type communities_type ours ≡ false = ne_eqb _ _ c.if-kind-ne-COMMUNITIES.true in
    let theirs = attributes c.args.sent.now in
    rw (looked-other-type theirs c.args.state ours other)
    (finds_one theirs c.args.so_far ours c.then_some.ensures (c.look_up.ensures ∙ looked-form theirs _ ours refl refl c.value_of.ensures))

pub returns-then-left-eq0 : goal.returns-then-left-eq0
unfolding is_type attribute
returns-then-left-eq0 c =
    let ours : Attribute = attribute c.args.a.now in
    let communities : is_type communities_type ours ≡ true = eq-eqb _ _ c.if-kind-ne-COMMUNITIES.false in
    rw (turned-gone (attributes c.args.sent.now) c.args.state ours communities c.requires.1 c.if-left-eq0.true) (finds_none _ c.args.so_far)

pub returns : goal.returns
unfolding attribute is_type
returns c =
    let ours : Attribute = attribute c.args.a.now in
    let communities : is_type communities_type ours ≡ true = eq-eqb _ _ c.if-kind-ne-COMMUNITIES.false in
    let theirs = attributes c.args.sent.now in
    let k = communities in
    rw (turned_left theirs c.args.state ours k c.requires.1 c.if-left-eq0.false)
    (finds_one theirs c.args.so_far _ c.then_some-2.ensures
    ((rw c.value_of-2.ensures at c.look_up_left.ensures) ∙ looked-left theirs c.args.state ours k c.requires.1))
