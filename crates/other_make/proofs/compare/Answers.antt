-- `compare` meets its contract: ours too long, one of ours missing, an overrun, and how many theirs are.
use Prim.Native.Nat.{◌≤◌}
use native.Mathlib.Omega.{arith}
use lib.ListN.{length}
use Rattle.rules.specs.Attributes.{encode}
use Rattle.rules.specs.Settings.{block_max}
use Rattle.rules.specs.OtherMake.{told_sent_check}
use Rattle.communities.specs.declared.tags.Dropping.TheVariants.{AllTags}
use Rattle.rewriting.specs.Plan.{outgoing}
use Rattle.rewriting.proofs.Rooms.{stands_size}
use Rattle.rewriting.proofs.Thrown.{left-found}
use Rattle.other_make.proofs.Ours.{ours-good, compared-long, compared_missing, compared_overrun, compared_by}
use Rattle.other_make.proofs.compare.Goals as goal

pub make_plan-plan-requires : goal.make_plan-plan-requires
make_plan-plan-requires c = (c.requires.0, left-found c.requires.0 c.value.ensures AllTags c.sift-left.ensures.0)

pub returns-then-most-plan : goal.returns-then-most-plan
unfolding told_sent_check
returns-then-most-plan c = let a = c.args in
    let ours = outgoing AllTags a.flags a.tag a.asn a.block.now in
    compared-long ours a.sent.now (omega (arith, stands_size {m = ours} c.make_plan-plan.ensures, c.if-most-plan.true))

pub all_found-requires : goal.all_found-requires
all_found-requires c = (c.requires.0, left-found c.requires.0 c.value.ensures AllTags c.sift-left.ensures.0)

pub returns-in_default : goal.returns-in_default
unfolding told_sent_check
returns-in_default c = let a = c.args in
    let ours = outgoing AllTags a.flags a.tag a.asn a.block.now in
    let short : length (encode ours) ≤ block_max = omega (arith, stands_size {m = ours} c.make_plan-plan.ensures, c.if-most-plan.false) in
    compared_missing ours a.sent.now short (ours-good a.block.now a.flags a.tag a.asn c.requires.0.clean c.requires.1) c.in_default.is c.all_found.ensures

pub returns-in_default-count : goal.returns-in_default-count
unfolding told_sent_check
returns-in_default-count c = let a = c.args in
    let ours = outgoing AllTags a.flags a.tag a.asn a.block.now in
    let short : length (encode ours) ≤ block_max = omega (arith, stands_size {m = ours} c.make_plan-plan.ensures, c.if-most-plan.false) in
    compared_overrun ours a.sent.now short (ours-good a.block.now a.flags a.tag a.asn c.requires.0.clean c.requires.1) c.in_default-count.is c.count.ensures

pub returns : goal.returns
unfolding told_sent_check
returns c = let a = c.args in
    let ours = outgoing AllTags a.flags a.tag a.asn a.block.now in
    let short : length (encode ours) ≤ block_max = omega (arith, stands_size {m = ours} c.make_plan-plan.ensures, c.if-most-plan.false) in
    compared_by ours a.sent.now short (ours-good a.block.now a.flags a.tag a.asn c.requires.0.clean c.requires.1) c.in-Some.is c.all_found.ensures c.in-Some-count.is c.count.ensures
