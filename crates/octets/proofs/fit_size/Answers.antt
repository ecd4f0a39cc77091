-- `fit_size` meets its contract.
use mathlib.Core.Path.{refl}
use native.Mathlib.Omega.{arith}
use borrow.Author.Tests.{le-leb, lt-leb}
use Rattle.octets.proofs.fit_size.Goals as goal

pub returns-then-size-len : goal.returns-then-size-len
returns-then-size-len c = rw (le-leb c.args.size c.args.len c.if-size-len.true) refl

pub returns-else-size-len : goal.returns-else-size-len
returns-else-size-len c = rw (lt-leb c.args.size c.args.len (omega arith)) refl
