-- `still_same` meets its contract: by whether the two are equal.
use mathlib.Core.Path.{sym, ap, ◌∙◌}
use mathlib.Core.Bool.{Bool, ◌&&◌, and-true, and-false}
use borrow.Author.Tests.{eq-eqb, ne_eqb}
use Rattle.octets.proofs.still_same.Goals as goal

pub returns-then-x-y : goal.returns-then-x-y
returns-then-x-y c = let a = c.args in
    sym (ap (λ (x : Bool). a.same && x) (eq-eqb a.x a.y c.if-x-y.true) ∙ and-true a.same)

pub returns-else-x-y : goal.returns-else-x-y
returns-else-x-y c = let a = c.args in
    sym (ap (λ (x : Bool). a.same && x) (ne_eqb a.x a.y c.if-x-y.false) ∙ and-false a.same)
