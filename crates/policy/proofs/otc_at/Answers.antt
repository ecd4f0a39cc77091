-- An OTC begins before the block's end.
use mathlib.Core.Path.{refl}
use borrow.Author.Tests.{lt-ltb, le-ltb}
use Rattle.policy.specs.Placed.{otc_at}
use Rattle.policy.proofs.otc_at.Goals as goal

pub returns-then-place-block : goal.returns-then-place-block
unfolding otc_at
returns-then-place-block c = rw (c.otc_as.ensures, c.value.ensures, lt-ltb _ _ c.if-place-block.true) refl

pub returns : goal.returns
unfolding otc_at
returns c = rw (le-ltb _ _ c.if-place-block.false) refl
