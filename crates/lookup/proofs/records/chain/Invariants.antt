-- `chain` meets its contract. The invariant: the records from `cur` on give what all of them give.
use Prim.Native.Nat.{◌-◌, ◌/◌, ◌<◌}
use mathlib.Core.Path.{◌≡◌}
use lib.ListN.{length}
use Rattle.lookup.specs.Look.{chain_of}
use Rattle.lookup.proofs.records.chain.Given as goal

abbrev pub invariant-loop : goal.invariant-loop
invariant-loop l = (l.met < 4) × (chain_of l.memory l.len l.asn (length l.memory / 3 - l.counter) l.cur l.met ≡ chain_of l.memory l.len l.asn (length l.memory / 3) l.head l.state)
