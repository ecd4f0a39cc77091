-- `octet_down` meets its contract. The invariant: with k bits gone, the look-up from `here` gives what it gave from the node.
use Prim.Native.Nat.{◌-◌, ◌≤◌, ◌<◌}
use Rattle.lookup.specs.Descent.{Descended}
use Rattle.lookup.proofs.descent.octet_down.Given as goal

abbrev pub invariant-loop-k : goal.invariant-loop-k
invariant-loop-k l = Descended l.memory l.len l.asn l.octet l.left l.node l.seen (l.left - l.k) l.here l.so_far × (l.k ≤ 8) × (0 < l.here)
