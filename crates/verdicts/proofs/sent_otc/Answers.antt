-- Towards a Customer, a Peer or an RS-Client, the local AS.
use Rattle.rules.specs.Roles.{remote_role}
use Rattle.rules.specs.Sending.{otc_sent}
use Rattle.verdicts.proofs.Judging.{otc_if}
use Rattle.verdicts.proofs.sent_otc.Goals as goal

pub returns : goal.returns
unfolding otc_sent remote_role
returns c = rw (c.then_some.ensures, ← c.remote_role-to.ensures, ← c.one_of_three-marked.ensures) (otc_if c.one_of_three-marked.result c.args.session.local_as)
