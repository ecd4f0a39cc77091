-- `meet` meets its contract.
use mathlib.Core.Path.{sym, ◌∙◌}
use borrow.Author.Tests.{lt-ltb, le-ltb}
use Rattle.choice.specs.Bests.{with, met}
use Rattle.choice.proofs.best.meet.Goals as goal

pub returns-then-best-rank : goal.returns-then-best-rank
unfolding met
returns-then-best-rank c = rw (lt-ltb _ _ c.if-best-rank.true)

pub returns-then-rank-best : goal.returns-then-rank-best
unfolding met with
returns-then-rank-best c = rw (le-ltb _ _ c.if-best-rank.false, lt-ltb _ _ c.if-rank-best.true)

pub returns-then-goes_before : goal.returns-then-goes_before
unfolding met with
returns-then-goes_before c = rw (le-ltb _ _ c.if-best-rank.false, le-ltb _ _ c.if-rank-best.false, sym c.goes_before.ensures ∙ c.if-goes_before.true)

pub returns : goal.returns
unfolding met with
returns c = rw (le-ltb _ _ c.if-best-rank.false, le-ltb _ _ c.if-rank-best.false, sym c.goes_before.ensures ∙ c.if-goes_before.false)
