-- `send_size` meets its contract: each way out by its law, in the order of answers.
use mathlib.Core.Path.{refl, sym, ap, ◌∙◌}
use native.Mathlib.Omega.{arith}
use Rattle.rules.specs.Answers.{told, done}
use Rattle.rules.specs.Sending.{measured, send_size}
use Rattle.rules.proofs.Agreeing.{measured-refused, measured-done, measured-long}
use Rattle.std.proofs.lemmas.Result.{err_from_is_err_and}
use Rattle.policy.proofs.Readings.{read-clean}
use Rattle.policy.proofs.Sends.{sends_setting, sends-length, sends-fault, sends_rule, sends-passed}
use Rattle.policy.proofs.size.send_size.Goals as goal

pub returns-then-not-sending_ok : goal.returns-then-not-sending_ok
unfolding told send_size
returns-then-not-sending_ok c = let a = c.args in
    measured-refused (sends_setting a.session a.source a.state a.block.now (sym c.sending_ok.ensures ∙ c.if-not-sending_ok.true))

pub returns-then-not-block_size_ok : goal.returns-then-not-block_size_ok
unfolding told send_size
returns-then-not-block_size_ok c = let a = c.args in
    measured-refused
    (sends-length a.session a.source a.state a.block.now (sym c.sending_ok.ensures ∙ c.if-not-sending_ok.false) (sym c.block_size_ok.ensures ∙ c.if-not-block_size_ok.true))

pub returns-in_err-layout : goal.returns-in_err-layout
unfolding told send_size
returns-in_err-layout c = let a = c.args in
    let d = err_from_is_err_and c.from_residual.result c.from_residual.ensures.1 in
    rw (d.1, d.2)
    (measured-refused
    (sends-fault a.session a.source a.state a.block.now (sym c.sending_ok.ensures ∙ c.if-not-sending_ok.false) (sym c.block_size_ok.ensures ∙ c.if-not-block_size_ok.false) c.read.ensures c.in_err-layout.was).1)

pub returns-in-Some : goal.returns-in-Some
unfolding told send_size
returns-in-Some c = let a = c.args in
    let clean = read-clean a.block.now (sym c.block_size_ok.ensures ∙ c.if-not-block_size_ok.false) c.read.ensures c.in_ok-layout.was in
    measured-refused
    (sends_rule a.session a.source a.state a.block.now (sym c.sending_ok.ensures ∙ c.if-not-sending_ok.false) clean refl c.sending_rule.ensures c.in-Some.is)

pub measure-size-requires : goal.measure-size-requires
measure-size-requires c = read-clean _ (sym c.block_size_ok.ensures ∙ c.if-not-block_size_ok.false) c.read.ensures c.in_ok-layout.was

-- A result above 4,073, and one that is not.
pub returns-then-size-gt-BLOCK_MAX : goal.returns-then-size-gt-BLOCK_MAX
unfolding told send_size
returns-then-size-gt-BLOCK_MAX c = let a = c.args in
    let clean = read-clean a.block.now (sym c.block_size_ok.ensures ∙ c.if-not-block_size_ok.false) c.read.ensures c.in_ok-layout.was in
    let decided = sends-passed a.session a.source a.state a.block.now (sym c.sending_ok.ensures ∙ c.if-not-sending_ok.false) clean refl c.sending_rule.ensures c.in_default.is
    c.sent_tag-tag.result c.sent_otc-asn.result c.new_flags-flags.ensures c.sent_tag-tag.ensures c.sent_otc-asn.ensures in
    sym (ap measured decided ∙ measured-long _ (omega (arith, c.measure-size.ensures, c.if-size-gt-BLOCK_MAX.true)))

pub returns : goal.returns
unfolding told send_size
returns c = let a = c.args in
    let clean = read-clean a.block.now (sym c.block_size_ok.ensures ∙ c.if-not-block_size_ok.false) c.read.ensures c.in_ok-layout.was in
    let decided = sends-passed a.session a.source a.state a.block.now (sym c.sending_ok.ensures ∙ c.if-not-sending_ok.false) clean refl c.sending_rule.ensures c.in_default.is
    c.sent_tag-tag.result c.sent_otc-asn.result c.new_flags-flags.ensures c.sent_tag-tag.ensures c.sent_otc-asn.ensures in
    ap done c.measure-size.ensures ∙ sym (ap measured decided ∙ measured-done _ (omega (arith, c.measure-size.ensures, c.if-size-gt-BLOCK_MAX.false)))
