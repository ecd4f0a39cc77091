-- Each part is a test of the code.
use Rattle.rules.specs.Settings.{strict_ok}
use Rattle.settings.proofs.ranges.opening_ok.Goals as goal

pub returns : goal.returns
unfolding strict_ok
returns c = simp (c.both.ensures, c.role_ok.ensures)
