-- `store` meets its contract.
use native.Mathlib.Omega.{arith}
use mathlib.Core.Path.{refl}
use lib.ListN.{length-set}
use Rattle.index.proofs.placing.store.Goals as goal

pub bounds-memory-at-2 : goal.bounds-memory-at-2
bounds-memory-at-2 c = simp length-set (omega arith)

pub bounds-memory-at-3 : goal.bounds-memory-at-3
bounds-memory-at-3 c = simp length-set (omega arith)

pub bounds-memory-head-2 : goal.bounds-memory-head-2
bounds-memory-head-2 c = simp length-set (omega arith)

pub returns : goal.returns
returns c = refl
