-- `otc_as` meets its contract: four bytes spell an AS.
use lib.ListN.{length}
use mathlib.Core.Path.{refl}
use native.Mathlib.Omega.{arith}
use borrow.Author.Tests.{eq-eqb, ne_eqb}
use Rattle.attributes.proofs.otc_as.Goals as goal

pub returns-then-value-ne4 : goal.returns-then-value-ne4
returns-then-value-ne4 c = rw (ne_eqb (length c.args.value.now) 4 (λ z. omega (arith, z))) refl

pub returns : goal.returns
returns c = rw (eq-eqb (length c.args.value.now) 4 (omega arith)) c.number4.ensures
