-- Each part is at its place.
use mathlib.Core.Path.{refl}
use Rattle.settings.proofs.sessions.session_of.Goals as goal

pub returns : goal.returns
returns c = refl
