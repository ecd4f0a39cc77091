-- `send_write` meets its contract: each way out by its law, in the order of answers.
use mathlib.Core.Path.{refl, sym, ◌∙◌}
use Rattle.rules.specs.Answers.{told}
use Rattle.policy.proofs.Deciding.{leaves-refused, leaves-made, room-found, room-missing, room-kept, room-full}
use Rattle.std.proofs.lemmas.Result.{err_from_is_err_and}
use Rattle.policy.proofs.Readings.{read-clean}
use Rattle.policy.proofs.Sends.{sends_setting, sends-length, sends-fault, sends_rule, sends-passed}
use Rattle.policy.proofs.write.send_write.Goals as goal

pub returns-then-not-sending_ok : goal.returns-then-not-sending_ok
unfolding told
returns-then-not-sending_ok c = let a = c.args in
    leaves-refused a.out.now (sends_setting a.session a.source a.state a.block.now (sym c.sending_ok.ensures ∙ c.if-not-sending_ok.true))

pub returns-then-not-block_size_ok : goal.returns-then-not-block_size_ok
unfolding told
returns-then-not-block_size_ok c = let a = c.args in
    leaves-refused a.out.now
    (sends-length a.session a.source a.state a.block.now (sym c.sending_ok.ensures ∙ c.if-not-sending_ok.false) (sym c.block_size_ok.ensures ∙ c.if-not-block_size_ok.true))

pub returns-in_err-layout : goal.returns-in_err-layout
unfolding told
returns-in_err-layout c = let a = c.args in
    let d = err_from_is_err_and c.from_residual.result c.from_residual.ensures.1 in
    rw (d.1, d.2)
    (leaves-refused a.out.now
    (sends-fault a.session a.source a.state a.block.now (sym c.sending_ok.ensures ∙ c.if-not-sending_ok.false) (sym c.block_size_ok.ensures ∙ c.if-not-block_size_ok.false) c.read.ensures c.in_err-layout.was).1)

pub returns-in-Some : goal.returns-in-Some
unfolding told
returns-in-Some c = let a = c.args in
    let clean = read-clean a.block.now (sym c.block_size_ok.ensures ∙ c.if-not-block_size_ok.false) c.read.ensures c.in_ok-layout.was in
    leaves-refused a.out.now
    (sends_rule a.session a.source a.state a.block.now (sym c.sending_ok.ensures ∙ c.if-not-sending_ok.false) clean refl c.sending_rule.ensures c.in-Some.is)

pub store-stored-requires : goal.store-stored-requires
store-stored-requires c = read-clean _ (sym c.block_size_ok.ensures ∙ c.if-not-block_size_ok.false) c.read.ensures c.in_ok-layout.was

pub returns-in_err-written : goal.returns-in_err-written
unfolding told
returns-in_err-written c = let a = c.args in
    let clean = read-clean a.block.now (sym c.block_size_ok.ensures ∙ c.if-not-block_size_ok.false) c.read.ensures c.in_ok-layout.was in
    let full = room-missing c.ok_or.ensures.value c.in_err-written.was in
    let decided = sends-passed a.session a.source a.state a.block.now (sym c.sending_ok.ensures ∙ c.if-not-sending_ok.false) clean refl c.sending_rule.ensures c.in_default.is
    c.sent_tag-tag.result c.sent_otc-asn.result c.new_flags-flags.ensures c.sent_tag-tag.ensures c.sent_otc-asn.ensures in
    let d = err_from_is_err_and c.from_residual-in_err-written.result c.from_residual-in_err-written.ensures.1 in
    rw (d.1, d.2, full.1) (leaves-made decided (room-full c.store-stored.ensures.0 full.0))

pub returns : goal.returns
unfolding told
returns c = let a = c.args in
    let clean = read-clean a.block.now (sym c.block_size_ok.ensures ∙ c.if-not-block_size_ok.false) c.read.ensures c.in_ok-layout.was in
    let stored = room-found c.ok_or.ensures.value c.in_ok-written.was in
    let decided = sends-passed a.session a.source a.state a.block.now (sym c.sending_ok.ensures ∙ c.if-not-sending_ok.false) clean refl c.sending_rule.ensures c.in_default.is
    c.sent_tag-tag.result c.sent_otc-asn.result c.new_flags-flags.ensures c.sent_tag-tag.ensures c.sent_otc-asn.ensures in
    leaves-made decided (room-kept c.store-stored.ensures.0 stored)
