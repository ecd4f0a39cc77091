-- `removed` meets its contract.
use borrow.Author.Tests.{eq-eqb, ne_eqb}
use Rattle.choice.specs.Bests.{is_removed}
use Rattle.choice.proofs.best.removed.Goals as goal

pub returns-then-otc : goal.returns-then-otc
unfolding is_removed
returns-then-otc c = rw c.if-otc.true

pub returns-then-address-client : goal.returns-then-address-client
unfolding is_removed
returns-then-address-client c = rw (c.if-otc.false, eq-eqb _ _ c.if-address-client.true)

pub returns-then-mode-ne-DROP_INVALID : goal.returns-then-mode-ne-DROP_INVALID
unfolding is_removed
returns-then-mode-ne-DROP_INVALID c = rw (c.if-otc.false, ne_eqb _ _ c.if-address-client.false, ne_eqb _ _ c.if-mode-ne-DROP_INVALID.true)

pub returns : goal.returns
unfolding is_removed
returns c = rw (c.if-otc.false, ne_eqb _ _ c.if-address-client.false, eq-eqb _ _ c.if-mode-ne-DROP_INVALID.false)
