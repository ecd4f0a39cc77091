-- `look_up` meets its contract: the attribute found, its flags and its value.
use Rattle.rules.specs.Attributes.{Attribute}
use Rattle.other_make.specs.Finding.{compared}
use Rattle.other_make.proofs.Lookups.{looked-other, looked-whole, looked-value}
use Rattle.other_make.proofs.parts.look_up.Goals as goal

pub returns-then-not-same_flags : goal.returns-then-not-same_flags
returns-then-not-same_flags c =
    let ours : Attribute = compared c.args.flags c.args.kind c.args.v.now in
    looked-other c.args.sent.now ours c.find-theirs.ensures c.same_flags.ensures c.if-not-same_flags.true

pub value_of-requires : goal.value_of-requires
value_of-requires c =
    let ours : Attribute = compared c.args.flags c.args.kind c.args.v.now in
    looked-whole c.args.sent.now ours c.find-theirs.ensures c.same_flags.ensures c.if-not-same_flags.false

pub returns : goal.returns
returns c =
    let ours : Attribute = compared c.args.flags c.args.kind c.args.v.now in
    looked-value c.args.sent.now ours c.find-theirs.ensures c.same_flags.ensures c.if-not-same_flags.false
    c.value_of.ensures c.same_bytes.ensures
