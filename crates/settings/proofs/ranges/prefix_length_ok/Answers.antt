-- It is the definition's test.
use mathlib.Core.Path.{refl}
use Rattle.rules.specs.Settings.{prefix_length_ok}
use Rattle.settings.proofs.ranges.prefix_length_ok.Goals as goal

pub returns : goal.returns
unfolding prefix_length_ok
returns c = refl
