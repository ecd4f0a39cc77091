-- By whether both ends are under one administration.
use mathlib.Core.Path.{refl, sym, ◌∙◌}
use Rattle.rules.specs.Receipt.{dropped_received}
use Rattle.communities.specs.Tags.{drop_test}
use Rattle.verdicts.proofs.received_test.Goals as goal

pub returns-then-one_administration : goal.returns-then-one_administration
unfolding drop_test dropped_received
returns-then-one_administration c = rw (sym c.one_administration.ensures ∙ c.if-one_administration.true) refl

pub returns : goal.returns
unfolding drop_test dropped_received
returns c = rw (sym c.one_administration.ensures ∙ c.if-one_administration.false) refl
