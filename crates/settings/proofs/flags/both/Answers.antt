-- The second test where the first holds.
use mathlib.Core.Path.{refl}
use Rattle.settings.proofs.flags.both.Goals as goal

pub returns-then-x : goal.returns-then-x
returns-then-x c = rw c.if-x.true refl

pub returns-else-x : goal.returns-else-x
returns-else-x c = rw c.if-x.false refl
