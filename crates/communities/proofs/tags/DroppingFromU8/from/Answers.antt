-- 0 is every tag, any other number those above 2.
use mathlib.Core.Path.{refl}
use native.Mathlib.Omega.{arith}
use borrow.Author.Tests.{eq-eqb, ne_eqb}
use Rattle.communities.specs.Tags.{drop_test}
use Rattle.communities.proofs.tags.DroppingFromU8.from.Goals as goal

pub returns-in-0 : goal.returns-in-0
unfolding drop_test
returns-in-0 c = rw (eq-eqb c.args.number 0 (omega (arith, c.in-0.is))) refl

pub returns-in_default : goal.returns-in_default
unfolding drop_test
returns-in_default c = rw (ne_eqb c.args.number 0 (λ z. omega arith)) refl
