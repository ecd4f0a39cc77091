-- `receive_placed` meets its contract: each way out by its law, in the order of answers.
use mathlib.Core.Path.{sym, ◌∙◌}
use Rattle.std.proofs.lemmas.Result.{err_from_is_err_and}
use Rattle.rewriting.proofs.Thrown.{thrown-found}
use Rattle.policy.proofs.Receives.{receives_setting, receives-length, receives-fault, receives_rule, receives-full, receives-stored}
use Rattle.policy.proofs.Readings.{read-clean, state-found}
use Rattle.policy.proofs.Deciding.{room-found, room-missing, room-kept, room-full}
use Rattle.policy.proofs.receive_placed.Goals as goal

pub returns-then-not-session_ok : goal.returns-then-not-session_ok
returns-then-not-session_ok c = let a = c.args in
    receives_setting a.session a.block.now a.out.now (sym c.session_ok.ensures ∙ c.if-not-session_ok.true)

pub returns-then-not-block_size_ok : goal.returns-then-not-block_size_ok
returns-then-not-block_size_ok c = let a = c.args in
    receives-length a.session a.block.now a.out.now (sym c.session_ok.ensures ∙ c.if-not-session_ok.false) (sym c.block_size_ok.ensures ∙ c.if-not-block_size_ok.true)

pub returns-in_err-layout : goal.returns-in_err-layout
returns-in_err-layout c = let a = c.args in
    let d = err_from_is_err_and c.from_residual.result c.from_residual.ensures.1 in
    rw (d.1, d.2)
    (receives-fault a.session a.block.now a.out.now (sym c.session_ok.ensures ∙ c.if-not-session_ok.false) (sym c.block_size_ok.ensures ∙ c.if-not-block_size_ok.false) c.read.ensures c.in_err-layout.was)

pub returns-in-Some : goal.returns-in-Some
returns-in-Some c = let a = c.args in
    let clean = read-clean a.block.now (sym c.block_size_ok.ensures ∙ c.if-not-block_size_ok.false) c.read.ensures c.in_ok-layout.was in
    receives_rule a.session a.block.now a.out.now (sym c.session_ok.ensures ∙ c.if-not-session_ok.false) clean (rw c.otc_at.ensures at c.receipt_rule.ensures) c.in-Some.is
    (thrown-found clean c.value.ensures c.sift-thrown_out.ensures.1)

pub store-stored-requires : goal.store-stored-requires
store-stored-requires c = read-clean _ (sym c.block_size_ok.ensures ∙ c.if-not-block_size_ok.false) c.read.ensures c.in_ok-layout.was

pub returns-in_err-written : goal.returns-in_err-written
returns-in_err-written c = let a = c.args in
    let clean = read-clean a.block.now (sym c.block_size_ok.ensures ∙ c.if-not-block_size_ok.false) c.read.ensures c.in_ok-layout.was in
    let full = room-missing c.ok_or.ensures.value c.in_err-written.was in
    let d = err_from_is_err_and c.from_residual-in_err-written.result c.from_residual-in_err-written.ensures.1 in
    rw (d.1, d.2, full.1)
    (receives-full a.session a.block.now a.out.now (sym c.session_ok.ensures ∙ c.if-not-session_ok.false) clean (rw c.otc_at.ensures at c.receipt_rule.ensures) c.in_default.is
    c.received_test-dropping.result c.received_otc-asn.result c.received_test-dropping.ensures c.new_flags-flags.ensures c.received_otc-asn.ensures (room-full c.store-stored.ensures.0 full.0))

pub returns : goal.returns
returns c = let a = c.args in
    let clean = read-clean a.block.now (sym c.block_size_ok.ensures ∙ c.if-not-block_size_ok.false) c.read.ensures c.in_ok-layout.was in
    let stored = room-found c.ok_or.ensures.value c.in_ok-written.was in
    receives-stored a.session a.block.now a.out.now (sym c.session_ok.ensures ∙ c.if-not-session_ok.false) clean (rw c.otc_at.ensures at c.receipt_rule.ensures) c.in_default.is
    c.received_test-dropping.result c.received_otc-asn.result c.received_test-dropping.ensures c.new_flags-flags.ensures c.received_otc-asn.ensures (room-kept c.store-stored.ensures.0 stored)
    (rw stored at c.store-stored.ensures.1) (state-found clean a.session c.value-2.ensures c.received_test-dropping.ensures c.state_left.ensures)
