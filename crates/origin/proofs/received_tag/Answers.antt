-- `received_tag` meets its contract.
use mathlib.Core.Path.{refl, ap, ◌∙◌}
use mathlib.Core.Option.{some}
use Rattle.std.proofs.lemmas.Result.{err_from_is_err_and}
use Rattle.rules.specs.Bytes.{one_of, exists}
use Rattle.rules.specs.Answers.{answer_number, number, told_tag_read, thrown_read}
use Rattle.rules.specs.Changes.{thrown_out, thrown_told}
use Rattle.attributes.proofs.Found.{fault-read}
use Rattle.origin.proofs.Answering.{communities-read, tag-long, tag-fault, tag-clean}
use Rattle.origin.proofs.received_tag.Goals as goal

pub returns-then-block-gt-BLOCK_MAX : goal.returns-then-block-gt-BLOCK_MAX
unfolding told_tag_read thrown_read thrown_told answer_number number one_of exists
returns-then-block-gt-BLOCK_MAX c = (tag-long c.args.block.now c.if-block-gt-BLOCK_MAX.true, refl)

pub returns-in_err-layout : goal.returns-in_err-layout
unfolding told_tag_read thrown_read thrown_told answer_number number one_of exists
returns-in_err-layout c = let p = err_from_is_err_and c.from_residual.result c.from_residual.ensures.1 in
    let b = c.args.block.now in
    let fault = fault-read b c.read.ensures c.in_err-layout.was in
    rw (p.1, p.2) (tag-fault b c.if-block-gt-BLOCK_MAX.false c.read.ensures c.in_err-layout.was, rw fault.1 refl)

pub returns : goal.returns
unfolding told_tag_read thrown_read thrown_told answer_number one_of exists
returns c = let b = c.args.block.now in
    let z = c.in_ok-layout.was in
    let f = communities-read b c.read.ensures z c.value.ensures in
    (tag-clean b c.if-block-gt-BLOCK_MAX.false c.read.ensures z f c.read_tags-tags.ensures.0, ap some (c.read_tags-tags.ensures.1 ∙ ap thrown_out f))
