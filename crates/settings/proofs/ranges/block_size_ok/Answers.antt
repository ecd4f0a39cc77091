-- `block_size_ok` meets its contract: it is the definition's test.
use mathlib.Core.Path.{refl}
use Rattle.settings.proofs.ranges.block_size_ok.Goals as goal

pub returns : goal.returns
returns c = refl
