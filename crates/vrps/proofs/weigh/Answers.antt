-- `weigh` meets its contract.
use mathlib.Core.Path.{sym, ◌∙◌}
use Rattle.vrps.proofs.Records.{weighed_apart, weighed-matches, weighed-covers}
use Rattle.vrps.proofs.weigh.Goals as goal

pub returns-then-not-covering : goal.returns-then-not-covering
returns-then-not-covering c = weighed_apart _ _ _ _ _ (sym c.covering.ensures ∙ c.if-not-covering.true)

pub returns-then-not-allows : goal.returns-then-not-allows
returns-then-not-allows c = weighed-covers _ _ _ _ _ (sym c.covering.ensures ∙ c.if-not-covering.false) (sym c.allows.ensures ∙ c.if-not-allows.true)

pub returns : goal.returns
returns c = weighed-matches _ _ _ _ _ (sym c.covering.ensures ∙ c.if-not-covering.false) (sym c.allows.ensures ∙ c.if-not-allows.false)
