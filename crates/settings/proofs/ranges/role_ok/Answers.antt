-- It is the definition's test.
use mathlib.Core.Path.{refl}
use Rattle.rules.specs.Settings.{role_ok}
use Rattle.settings.proofs.ranges.role_ok.Goals as goal

pub returns : goal.returns
unfolding role_ok
returns c = refl
