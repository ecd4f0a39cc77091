-- `is_long` meets its contract: its test is the definition.
use mathlib.Core.Path.{refl}
use Rattle.rules.specs.Attributes.{long}
use Rattle.attributes.proofs.values.is_long.Goals as goal

pub returns : goal.returns
unfolding long
returns c = rw (← c.wide.ensures.0) refl
