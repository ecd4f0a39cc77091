-- `look_up_left` meets its contract: the communities attribute found, its flags and its value.
use mathlib.Core.List.{◌++◌}
use Rattle.rules.specs.Attributes.{Attribute, communities_type}
use Rattle.rules.specs.Changes.{drop_from}
use Rattle.communities.specs.declared.tags.Dropping.TheVariants.{AllTags}
use Rattle.communities.specs.Tags.{drop_test, tag_bytes}
use Rattle.other_make.specs.Finding.{compared}
use Rattle.other_make.proofs.Lookups.{looked-other, looked-whole, looked-value}
use Rattle.other_make.proofs.parts.look_up_left.Goals as goal

pub returns-then-not-same_flags : goal.returns-then-not-same_flags
returns-then-not-same_flags c =
    let ours : Attribute = compared c.args.flags communities_type (drop_from (drop_test AllTags) c.args.v.now ++ tag_bytes c.args.state) in
    looked-other c.args.sent.now ours c.find-theirs.ensures c.same_flags.ensures c.if-not-same_flags.true

pub value_of-requires : goal.value_of-requires
value_of-requires c =
    let ours : Attribute = compared c.args.flags communities_type (drop_from (drop_test AllTags) c.args.v.now ++ tag_bytes c.args.state) in
    looked-whole c.args.sent.now ours c.find-theirs.ensures c.same_flags.ensures c.if-not-same_flags.false

pub returns : goal.returns
returns c =
    let ours : Attribute = compared c.args.flags communities_type (drop_from (drop_test AllTags) c.args.v.now ++ tag_bytes c.args.state) in
    looked-value c.args.sent.now ours c.find-theirs.ensures c.same_flags.ensures c.if-not-same_flags.false
    c.value_of.ensures c.same_left.ensures
