-- A role, or an own route.
use borrow.Author.Tests.{le-leb, lt-leb}
use Rattle.rules.specs.Settings.{source_ok}
use Rattle.settings.proofs.ranges.source_ok.Goals as goal

pub returns-then-source-le-PEER : goal.returns-then-source-le-PEER
unfolding source_ok
returns-then-source-le-PEER c = rw (le-leb _ _ c.if-source-le-PEER.true)

pub returns-else-source-le-PEER : goal.returns-else-source-le-PEER
unfolding source_ok
returns-else-source-le-PEER c = rw (lt-leb _ _ c.if-source-le-PEER.false)
