-- `otc_to_add` meets its contract: none where there is an OTC.
use mathlib.Core.Path.{refl}
use native.Mathlib.Omega.{arith}
use borrow.Author.Tests.{lt-ltb, le-ltb}
use Rattle.rewriting.proofs.planner.otc_to_add.Goals as goal

pub returns-then-place-len : goal.returns-then-place-len
returns-then-place-len c = rw (lt-ltb c.args.place c.args.len c.if-place-len.true) refl

pub returns-else-place-len : goal.returns-else-place-len
returns-else-place-len c = rw (le-ltb c.args.place c.args.len (omega arith)) refl
