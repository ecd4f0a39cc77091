-- `greater_of` meets its contract.
use borrow.Author.Tests.{eq-eqb, ne_eqb, lt-ltb, le-ltb}
use Rattle.communities.specs.Received.{greater}
use Rattle.communities.proofs.received.greater_of.Goals as goal

pub returns-then-state-eq-UNAVAILABLE : goal.returns-then-state-eq-UNAVAILABLE
unfolding greater
returns-then-state-eq-UNAVAILABLE c = rw (eq-eqb _ _ c.if-state-eq-UNAVAILABLE.true)

pub returns-then-state-value : goal.returns-then-state-value
unfolding greater
returns-then-state-value c = rw (ne_eqb _ _ c.if-state-eq-UNAVAILABLE.false, lt-ltb _ _ c.if-state-value.true)

pub returns-else-state-value : goal.returns-else-state-value
unfolding greater
returns-else-state-value c = rw (ne_eqb _ _ c.if-state-eq-UNAVAILABLE.false, le-ltb _ _ c.if-state-value.false)
