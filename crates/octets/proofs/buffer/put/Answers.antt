-- `put` meets its contract: a short piece is one copy, a long one two, the second where the first ends.
use Prim.Native.Nat.{◌+◌, ◌-◌, ◌%◌}
use mathlib.Core.Path.{sym}
use native.Mathlib.Omega.{arith}
use lib.ListN.{take-append-drop, length-take, length-drop}
use lib.Seq.{length-take-le}
use Rattle.octets.proofs.Slices.{tail_is}
use Rattle.octets.proofs.Writing.{stored_then}
use Rattle.octets.proofs.buffer.put.Goals as goal

pub slice_bounds-copy-end : goal.slice_bounds-copy-end
slice_bounds-copy-end c = let a = c.args in
    sym (length-take-le (15 - (a.at + 15) % 16) a.src.now (omega arith))

pub copy-next-requires : goal.copy-next-requires
copy-next-requires c = simp length-take (omega arith)

pub copy-requires-2 : goal.copy-requires-2
copy-requires-2 c = let e = c.copy-next.ensures in
    rw e.next (simp (length-take, length-drop) (omega arith))

pub returns : goal.returns
returns c = let src = c.args.src.now in
    let head = 15 - (c.args.at + 15) % 16 in
    let first = c.copy-next.ensures in
    let second = rw (tail_is src head) at c.copy-2.ensures in
    rw (take-append-drop head src) at (stored_then (omega (arith, c.requires)) first second)
