-- `grow` meets its contract: the law of its four stores.
use native.Mathlib.Omega.{arith}
use lib.ListN.{length-set}
use Rattle.index.proofs.Growing.{grown_sets}
use Rattle.index.proofs.placing.grow.Goals as goal

pub returns : goal.returns
returns c = let a = c.args in
    grown_sets a.memory.now a.nodes (omega arith) _ _ _ (omega arith) (omega arith) c.narrow.ensures

pub bounds-memory-at-2 : goal.bounds-memory-at-2
bounds-memory-at-2 c = simp length-set (omega arith)

pub bounds-memory-at-3 : goal.bounds-memory-at-3
bounds-memory-at-3 c = simp length-set (omega arith)

pub bounds-memory-from : goal.bounds-memory-from
bounds-memory-from c = simp length-set (omega arith)
