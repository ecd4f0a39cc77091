-- `sought` meets its contract: a place that was found stays.
use borrow.Author.Tests.{lt-ltb, le-ltb}
use Rattle.attributes.specs.Steps.{first_of}
use Rattle.attributes.proofs.values.sought.Goals as goal

pub returns-then-not-found : goal.returns-then-not-found
unfolding first_of
returns-then-not-found c = rw c.if-not-found.true

pub returns-then-at-place : goal.returns-then-at-place
unfolding first_of
returns-then-at-place c = rw (c.if-not-found.false, lt-ltb c.args.at c.args.place c.if-at-place.true)

pub returns-else-at-place : goal.returns-else-at-place
unfolding first_of
returns-else-at-place c = rw (c.if-not-found.false, le-ltb c.args.at c.args.place c.if-at-place.false)
