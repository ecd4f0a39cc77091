-- `choose` meets its contract. The loop's invariant: the candidates before those left to the iterator are met.
use mathlib.Core.Path.{◌≡◌}
use Rattle.rules.specs.Choice.{offer_size}
use Rattle.choice.proofs.Choosing.{Met}
use Rattle.choice.proofs.choose.Given as goal

abbrev pub invariant-loop-index : goal.invariant-loop-index
invariant-loop-index l =
    let it = l.index-iterator in
    Met l.client l.buffer l.offers l.meant l.best it.iter.rest.now it.count × (it.iter.size ≡ offer_size)
