-- Each part is a test of the code.
use Rattle.settings.proofs.ranges.route_ok.Goals as goal

pub returns : goal.returns
returns c = simp (c.both.ensures, c.as_ok.ensures, c.prefix_length_ok.ensures)
