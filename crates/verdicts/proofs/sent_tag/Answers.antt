-- Towards an RS-Client, and under one administration towards any role, the state is told; 3 tells none, whoever the route goes to.
use mathlib.Core.Path.{sym, ◌∙◌}
use borrow.Author.Tests.{eq-eqb, ne_eqb}
use Rattle.rules.specs.Roles.{remote_role}
use Rattle.rules.specs.Sending.{tag_sent}
use Rattle.settings.specs.Told.{told_tag}
use Rattle.verdicts.proofs.Judging.{state_told_lem}
use Rattle.verdicts.proofs.sent_tag.Goals as goal

pub returns-then-remote_role-eq-RS_CLIENT : goal.returns-then-remote_role-eq-RS_CLIENT
unfolding tag_sent remote_role
returns-then-remote_role-eq-RS_CLIENT c = rw (← c.remote_role.ensures, eq-eqb _ _ c.if-remote_role-eq-RS_CLIENT.true) (state_told_lem c.args.state)

pub returns-then-one_administration : goal.returns-then-one_administration
unfolding tag_sent remote_role
returns-then-one_administration c = rw (← c.remote_role.ensures, ne_eqb _ _ c.if-remote_role-eq-RS_CLIENT.false, sym c.one_administration.ensures ∙ c.if-one_administration.true) (state_told_lem c.args.state)

pub returns-else-one_administration : goal.returns-else-one_administration
unfolding tag_sent remote_role told_tag
returns-else-one_administration c = rw (← c.remote_role.ensures, ne_eqb _ _ c.if-remote_role-eq-RS_CLIENT.false, sym c.one_administration.ensures ∙ c.if-one_administration.false)
