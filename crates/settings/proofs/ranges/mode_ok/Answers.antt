-- It is the definition's test.
use mathlib.Core.Path.{refl}
use Rattle.rules.specs.Settings.{mode_ok}
use Rattle.settings.proofs.ranges.mode_ok.Goals as goal

pub returns : goal.returns
unfolding mode_ok
returns c = refl
