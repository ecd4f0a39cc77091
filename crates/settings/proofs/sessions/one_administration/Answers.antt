-- It is the definition's test.
use mathlib.Core.Path.{refl}
use Rattle.rules.specs.Settings.{one_administration}
use Rattle.settings.proofs.sessions.one_administration.Goals as goal

pub returns : goal.returns
unfolding one_administration
returns c = refl
