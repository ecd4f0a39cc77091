-- `session_in` meets its contract.
use mathlib.Core.Path.{refl, ◌∙◌}
use Rattle.rules.specs.Bytes.{part}
use Rattle.rules.specs.Desk.{session_in}
use Rattle.frames.proofs.kinds.session_in.Goals as goal

pub returns : goal.returns
unfolding session_in part
returns c = c.session_of.ensures ∙ rw (c.number4.ensures, c.number4-2.ensures) refl
