-- From above or across, the remote AS.
use Rattle.rules.specs.Roles.{remote_role}
use Rattle.rules.specs.Receipt.{otc_received}
use Rattle.verdicts.proofs.Judging.{otc_if}
use Rattle.verdicts.proofs.received_otc.Goals as goal

pub returns : goal.returns
unfolding otc_received remote_role
returns c = rw (c.then_some.ensures, ← c.remote_role-from.ensures, ← c.is_up.ensures) (otc_if c.is_up.result c.args.session.remote_as)
