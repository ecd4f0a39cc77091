-- Each part is a test of the code.
use Rattle.rules.specs.Settings.{session_ok}
use Rattle.settings.proofs.ranges.session_ok.Goals as goal

pub returns : goal.returns
unfolding session_ok
returns c = simp (c.both.ensures, c.administration_ok.ensures, c.both-mode.ensures, c.mode_ok.ensures, c.both-role.ensures, c.role_ok.ensures, c.ases_ok-ases.ensures)
