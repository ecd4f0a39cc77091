-- `goes_before` meets its contract: the derived order is that of the keys as a list.
use mathlib.Core.Path.{◌∙◌}
use Rattle.choice.specs.Keys.{listed}
use Rattle.choice.proofs.Ordering.{before-then, before_last}
use Rattle.choice.proofs.keys.goes_before.Goals as goal

pub returns : goal.returns
unfolding listed
returns c = let x = c.args.x in let y = c.args.y in
    c.lt.ensures
    ∙ before-then x.path y.path _ _ _ (before-then x.origin y.origin _ _ _ (before-then x.identifier y.identifier _ _ _ (before_last x.address y.address)))
