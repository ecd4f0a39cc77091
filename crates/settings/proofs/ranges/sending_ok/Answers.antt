-- Each part is a test of the code.
use Rattle.settings.proofs.ranges.sending_ok.Goals as goal

pub returns : goal.returns
returns c = simp (c.both-2.ensures, c.state_ok.ensures, c.both.ensures, c.source_ok.ensures, c.session_ok.ensures)
