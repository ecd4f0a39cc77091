-- Each part is a callee's test.
use Rattle.settings.proofs.ranges.ases_ok.Goals as goal

pub returns : goal.returns
returns c = simp (c.both-2.ensures, c.both.ensures, c.as_ok-2.ensures, c.as_ok.ensures)
