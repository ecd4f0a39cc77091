-- `attribute_size` meets its contract: nothing stands past the end.
use native.Mathlib.Omega.{arith}
use Rattle.attributes.proofs.Found.{size-past, size-here}
use Rattle.attributes.proofs.attribute_size.Goals as goal

pub returns-then-block-at : goal.returns-then-block-at
returns-then-block-at c = size-past c.args.block.now c.args.at c.if-block-at.true

pub returns : goal.returns
returns c = size-here c.args.block.now c.args.at (omega arith) c.fit_attribute.ensures
