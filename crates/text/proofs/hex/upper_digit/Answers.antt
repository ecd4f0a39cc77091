-- `upper_digit` meets its contract: the test is the definition's.
use mathlib.Core.Path.{refl}
use borrow.Author.Tests.{lt-ltb, le-ltb}
use Rattle.rules.specs.Text.{upper_digit}
use Rattle.text.proofs.hex.upper_digit.Goals as goal

pub returns-then-d-lt10 : goal.returns-then-d-lt10
unfolding upper_digit
returns-then-d-lt10 c = rw (lt-ltb c.args.d 10 c.if-d-lt10.true) refl

pub returns-else-d-lt10 : goal.returns-else-d-lt10
unfolding upper_digit
returns-else-d-lt10 c = rw (le-ltb c.args.d 10 c.if-d-lt10.false) refl
