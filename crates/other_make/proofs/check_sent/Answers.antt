-- `check_sent` meets its contract: each way out by its law, in the order of answers.
use mathlib.Core.Path.{refl, sym, ap, ◌∙◌}
use borrow.Author.Tests.{leb-true, leb-false}
use Rattle.std.proofs.lemmas.Result.{err_from_is_err_and}
use lib.Dec.{eqb}
use Rattle.rules.specs.Answers.{number}
use Rattle.rules.specs.declared.Refusal.{Refusal}
use Rattle.rules.specs.OtherMake.{told_sent_check}
use Rattle.rules.proofs.Allowing.{allowed_setting, allowed-length, allowed-sent-length, allowed-refused, allowed-withheld}
use Rattle.rules.proofs.Values.{new-short}
use Rattle.policy.proofs.Readings.{read-clean}
use Rattle.policy.proofs.Sends.{sends_setting, sends-length, sends-fault, sends_rule, sends-passed}
use Rattle.other_make.proofs.Checks.{some_of, none_of, sized-refused, allowed-made}
use Rattle.other_make.proofs.check_sent.Goals as goal

pub returns-then-not-sending_ok : goal.returns-then-not-sending_ok
unfolding told_sent_check
returns-then-not-sending_ok c = let a = c.args in
    sym (allowed_setting a.session a.source a.state a.block.now a.sent.now
    (sized-refused a.session a.source a.state a.block.now (sends_setting a.session a.source a.state a.block.now (sym c.sending_ok.ensures ∙ c.if-not-sending_ok.true))))

pub returns-then-not-block_size_ok : goal.returns-then-not-block_size_ok
unfolding told_sent_check
returns-then-not-block_size_ok c = let a = c.args in
    sym (allowed-length a.session a.source a.state a.block.now a.sent.now
    (sized-refused a.session a.source a.state a.block.now
    (sends-length a.session a.source a.state a.block.now (sym c.sending_ok.ensures ∙ c.if-not-sending_ok.false) (sym c.block_size_ok.ensures ∙ c.if-not-block_size_ok.true))))

pub returns-then-not-block_size_ok-2 : goal.returns-then-not-block_size_ok-2
unfolding told_sent_check
returns-then-not-block_size_ok-2 c = let a = c.args in
    sym (allowed-sent-length a.session a.source a.state a.block.now a.sent.now (sym c.sending_ok.ensures ∙ c.if-not-sending_ok.false)
    (leb-false _ _ (sym c.block_size_ok-2.ensures ∙ c.if-not-block_size_ok-2.true)))

pub returns-in_err-layout : goal.returns-in_err-layout
unfolding told_sent_check number
returns-in_err-layout c = let a = c.args in
    let d = err_from_is_err_and c.from_residual.result c.from_residual.ensures.1 in
    let f = sends-fault a.session a.source a.state a.block.now (sym c.sending_ok.ensures ∙ c.if-not-sending_ok.false) (sym c.block_size_ok.ensures ∙ c.if-not-block_size_ok.false) c.read.ensures c.in_err-layout.was in
    rw (d.1, d.2)
    (sym (allowed-refused a.session a.source a.state a.block.now a.sent.now (leb-true _ _ (sym c.block_size_ok-2.ensures ∙ c.if-not-block_size_ok-2.false))
    (sized-refused a.session a.source a.state a.block.now f.1) (ap (λ (r : Refusal). eqb (number r) 2) f.0)))

pub returns-then-is_some : goal.returns-then-is_some
unfolding told_sent_check
returns-then-is_some c = let a = c.args in
    let clean = read-clean a.block.now (sym c.block_size_ok.ensures ∙ c.if-not-block_size_ok.false) c.read.ensures c.in_ok-layout.was in
    let rule = some_of c.sending_rule.result (sym c.is_some.ensures ∙ c.if-is_some.true) in
    sym (allowed-withheld a.session a.source a.state a.block.now a.sent.now (leb-true _ _ (sym c.block_size_ok-2.ensures ∙ c.if-not-block_size_ok-2.false))
    (sized-refused a.session a.source a.state a.block.now
    (sends_rule a.session a.source a.state a.block.now (sym c.sending_ok.ensures ∙ c.if-not-sending_ok.false) clean refl c.sending_rule.ensures rule.1)))

pub compare-requires : goal.compare-requires
compare-requires c = (read-clean _ (sym c.block_size_ok.ensures ∙ c.if-not-block_size_ok.false) c.read.ensures c.in_ok-layout.was, rw c.new_flags-flags.ensures (new-short _))

pub returns : goal.returns
returns c = let a = c.args in
    let clean = read-clean a.block.now (sym c.block_size_ok.ensures ∙ c.if-not-block_size_ok.false) c.read.ensures c.in_ok-layout.was in
    c.compare.ensures
    ∙ allowed-made a.session a.source a.state a.block.now a.sent.now (leb-true _ _ (sym c.block_size_ok-2.ensures ∙ c.if-not-block_size_ok-2.false))
    (sends-passed a.session a.source a.state a.block.now (sym c.sending_ok.ensures ∙ c.if-not-sending_ok.false) clean refl c.sending_rule.ensures (none_of c.sending_rule.result (sym c.is_some.ensures ∙ c.if-is_some.false))
    c.sent_tag-tag.result c.sent_otc-asn.result c.new_flags-flags.ensures c.sent_tag-tag.ensures c.sent_otc-asn.ensures)
