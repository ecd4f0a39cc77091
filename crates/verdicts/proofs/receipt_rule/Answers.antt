-- Without an OTC no rule applies; with one the code's two tests are those of the rules, and each answer is the first that holds.
use mathlib.Core.Path.{refl, ◌∙◌}
use borrow.Author.Tests.{eq-eqb, ne_eqb}
use Rattle.rules.specs.Roles.{remote_role}
use Rattle.verdicts.specs.Judge.{ruled}
use Rattle.verdicts.proofs.Judging.{receipt_without, receipt_with}
use Rattle.verdicts.proofs.receipt_rule.Goals as goal
use Rattle.verdicts.proofs.receipt_rule.Goals.{else-from-eq-PEER-via-then-from-eq-PEER+else-otc-remote, else-from-eq-PEER-via-else-from-eq-PEER}

pub returns-in_err-otc : goal.returns-in_err-otc
unfolding ruled
returns-in_err-otc c l h = rw c.from_residual.ensures (receipt_without c.args.session l (h ∙ c.in_err-otc.was))

pub returns-then-one_of_two : goal.returns-then-one_of_two
unfolding ruled remote_role
returns-then-one_of_two c l h =
    receipt_with c.args.session l (h ∙ c.in_ok-otc.was) ∙ rw (← c.remote_role-from.ensures, ← c.one_of_two.ensures, c.if-one_of_two.true) refl

pub returns-then-otc-remote : goal.returns-then-otc-remote
unfolding ruled remote_role
returns-then-otc-remote c l h =
    receipt_with c.args.session l (h ∙ c.in_ok-otc.was)
    ∙ rw (← c.remote_role-from.ensures, ← c.one_of_two.ensures, c.if-one_of_two.false, eq-eqb _ _ c.if-from-eq-PEER.true, ne_eqb _ _ c.if-otc-remote.true) refl

pub returns : goal.returns
unfolding ruled remote_role
returns c l h =
    let tested = receipt_with c.args.session l (h ∙ c.in_ok-otc.was) in
    elim c.else-from-eq-PEER.branch [
      | else-from-eq-PEER-via-then-from-eq-PEER+else-otc-remote w ↦
          tested ∙ rw (← c.remote_role-from.ensures, ← c.one_of_two.ensures, c.if-one_of_two.false, eq-eqb _ _ w.if-from-eq-PEER.true, eq-eqb _ _ w.if-otc-remote.false) refl
      | else-from-eq-PEER-via-else-from-eq-PEER w ↦
          tested ∙ rw (← c.remote_role-from.ensures, ← c.one_of_two.ensures, c.if-one_of_two.false, ne_eqb _ _ w.if-from-eq-PEER.false) refl
    ]
