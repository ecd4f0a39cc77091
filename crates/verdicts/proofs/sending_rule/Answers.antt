-- The code's three tests are those of the rules, and each answer is the first that holds.
use mathlib.Core.Path.{refl, ◌∙◌}
use Rattle.rules.specs.Roles.{remote_role}
use Rattle.verdicts.specs.Judge.{ruled}
use Rattle.verdicts.proofs.Judging.{sending_judged}
use Rattle.verdicts.proofs.sending_rule.Goals as goal

pub returns-then-both : goal.returns-then-both
unfolding ruled remote_role
returns-then-both c l h = let a = c.args in
    sending_judged a.session a.source a.state l ∙ rw (h, ← c.remote_role-to.ensures, ← c.is_up-up.ensures, ← c.both.ensures, c.if-both.true) refl

pub returns-then-both-2 : goal.returns-then-both-2
unfolding ruled remote_role
returns-then-both-2 c l h = let a = c.args in
    sending_judged a.session a.source a.state l
    ∙ rw (h, ← c.remote_role-to.ensures, ← c.is_up-up.ensures, ← c.both.ensures, c.if-both.false, ← c.from_above-above.ensures, ← c.both-2.ensures, c.if-both-2.true) refl

pub returns-then-dropped : goal.returns-then-dropped
unfolding ruled remote_role
returns-then-dropped c l h = let a = c.args in
    sending_judged a.session a.source a.state l
    ∙ rw (h, ← c.remote_role-to.ensures, ← c.is_up-up.ensures, ← c.both.ensures, c.if-both.false, ← c.from_above-above.ensures, ← c.both-2.ensures, c.if-both-2.false, ← c.dropped.ensures, c.if-dropped.true) refl

pub returns : goal.returns
unfolding ruled remote_role
returns c l h = let a = c.args in
    sending_judged a.session a.source a.state l
    ∙ rw (h, ← c.remote_role-to.ensures, ← c.is_up-up.ensures, ← c.both.ensures, c.if-both.false, ← c.from_above-above.ensures, ← c.both-2.ensures, c.if-both-2.false, ← c.dropped.ensures, c.if-dropped.false) refl
