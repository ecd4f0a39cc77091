-- The house default for 0, else the mode.
use borrow.Author.Tests.{eq-eqb, ne_eqb}
use Rattle.rules.specs.Settings.{mode_meant}
use Rattle.settings.proofs.modes.mode_meant.Goals as goal

pub returns-then-mode-eq0 : goal.returns-then-mode-eq0
unfolding mode_meant
returns-then-mode-eq0 c = rw (eq-eqb _ _ c.if-mode-eq0.true)

pub returns-else-mode-eq0 : goal.returns-else-mode-eq0
unfolding mode_meant
returns-else-mode-eq0 c = rw (ne_eqb _ _ c.if-mode-eq0.false)
