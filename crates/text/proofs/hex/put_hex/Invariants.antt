-- `put_hex` meets its contract. The loop's invariant: all is stored but the digits of the bytes from the index on.
use Prim.Native.Nat.{◌≤◌}
use lib.ListN.{length, drop}
use Rattle.rules.specs.Text.{to_hex}
use Rattle.octets.proofs.Writing.{Writing}
use Rattle.text.proofs.hex.put_hex.Given as goal

abbrev pub invariant-loop-b : goal.invariant-loop-b
invariant-loop-b l = (l.b-index ≤ length l.src) × Writing l.initial.out l.at (to_hex l.src) l.out l.w (to_hex (drop l.b-index l.src))
