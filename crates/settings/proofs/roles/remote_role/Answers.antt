-- Each role's row of the table; no other value has one.
use mathlib.Core.Path.{sym}
use native.Mathlib.Omega.{arith}
use Rattle.rules.specs.Roles.{counterpart}
use Rattle.rules.proofs.Roles.{counterpart-other}
use Rattle.settings.proofs.roles.remote_role.Goals as goal

pub returns-in-0 : goal.returns-in-0
unfolding counterpart
returns-in-0 c = rw c.in-0.is

pub returns-in-1 : goal.returns-in-1
unfolding counterpart
returns-in-1 c = rw c.in-1.is

pub returns-in-2 : goal.returns-in-2
unfolding counterpart
returns-in-2 c = rw c.in-2.is

pub returns-in-3 : goal.returns-in-3
unfolding counterpart
returns-in-3 c = rw c.in-3.is

pub returns-in-4 : goal.returns-in-4
unfolding counterpart
returns-in-4 c = rw c.in-4.is

pub returns-in_default : goal.returns-in_default
returns-in_default c = sym (counterpart-other c.args.role (omega arith))
