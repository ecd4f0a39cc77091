-- `receive` meets its contract: it tells what the internal form does, without the place.
use mathlib.Core.Path.{◌≡◌}
use borrow.Author.Rules.{rules}
use Rattle.std.specs.Prelude.{Ok, Err}
use Rattle.std.proofs.lemmas.Result.{err_from_is_err_and}
use Rattle.policy.specs.Placed.{taken}
use Rattle.policy.proofs.receive.Goals as goal

pub returns-in_err-placed : goal.returns-in_err-placed
unfolding taken
returns-in_err-placed c =
    let d = err_from_is_err_and c.from_residual.result c.from_residual.ensures.1 in
    let e : c.receive_placed.result ≡ Err c.in_err-placed.field-0.0 = search rules in
    rw (d.1, d.2) (rw e at c.receive_placed.ensures.got)

pub returns : goal.returns
unfolding taken
returns c =
    let e : c.receive_placed.result ≡ Ok c.in_ok-placed.placed = search rules in
    rw e at c.receive_placed.ensures.got
