-- `keep_session` meets its contract.
use mathlib.Core.Path.{refl}
use Rattle.desk_memory.specs.Keeping.{kept_session}
use Rattle.desk_memory.proofs.keep_session.Goals as goal

pub returns-then-not-taken : goal.returns-then-not-taken
unfolding kept_session
returns-then-not-taken c = rw c.if-not-taken.true refl

pub returns : goal.returns
unfolding kept_session
returns c = rw (c.if-not-taken.false, c.session_in.ensures) refl
