-- It is the definition's test.
use mathlib.Core.Path.{refl}
use Rattle.rules.specs.Settings.{state_ok}
use Rattle.settings.proofs.ranges.state_ok.Goals as goal

pub returns : goal.returns
unfolding state_ok
returns c = refl
