-- `words6` meets its contract.
use mathlib.Core.Path.{◌∙◌}
use native.Mathlib.Nat.{div-one}
use Rattle.rules.specs.Origin.{prefix_in}
use Rattle.vrps.proofs.Words.{spelled-halves}
use Rattle.vrps.proofs.prefixes.words6.Goals as goal

pub returns : goal.returns
unfolding prefix_in
returns c = div-one _ ∙ spelled-halves c.args.high c.args.low
