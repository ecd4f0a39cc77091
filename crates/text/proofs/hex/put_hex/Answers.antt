-- `put_hex` meets its contract. The loop's invariant: all is stored but the digits of the bytes from the index on.
use Prim.Native.Nat.{◌+◌, ◌%◌}
use mathlib.Core.Path.{refl}
use mathlib.Core.List.{[], ◌∷◌, ◌++◌}
use native.Mathlib.Omega.{arith}
use lib.ListN.{drop, get_or}
use Rattle.rules.specs.Text.{to_hex, upper_digit}
use Rattle.octets.proofs.Writing.{writing_start, writing-rest, writing-room, writing_step, writing-end, writing-length}
use Rattle.text.proofs.Spelling.{hex-length, hex-next, hex-end}
use Rattle.text.proofs.hex.put_hex.Goals as goal

pub loop-b-init : goal.loop-b-init
loop-b-init c = let n = hex-length c.args.src.now in
    (omega arith, writing_start c.args.out.now c.args.at (to_hex c.args.src.now) (omega (arith, n, c.requires)))

pub upper_digit-requires : goal.upper_digit-requires
upper_digit-requires c = omega (arith, c.type_inv.src c.loop-b.b-index)

pub put_byte-w-requires : goal.put_byte-w-requires
put_byte-w-requires c = let s = c.args.src.now in
    let l = c.loop-b in
    let W = writing-rest l.invariant.1 (hex-next s l.b-index c.loop-b-test.true c.upper_digit.ensures refl) in
    omega (arith, writing-room (c.upper_digit.result ∷ []) ((upper_digit (get_or s l.b-index 0 % 16) ∷ []) ++ to_hex (drop (l.b-index + 1) s)) W)

pub put_byte-w-requires-in-loop-b : goal.put_byte-w-requires-in-loop-b
put_byte-w-requires-in-loop-b c = let s = c.args.src.now in
    let l = c.loop-b in
    let W = writing-rest l.invariant.1 (hex-next s l.b-index c.loop-b-test.true c.upper_digit.ensures c.upper_digit-in-loop-b.ensures) in
    omega (arith, writing-room (c.upper_digit-in-loop-b.result ∷ []) (to_hex (drop (l.b-index + 1) s)) (writing_step W c.put_byte-w.ensures))

pub loop-b-preserved : goal.loop-b-preserved
loop-b-preserved c = let s = c.args.src.now in
    let l = c.loop-b in
    let W = writing-rest l.invariant.1 (hex-next s l.b-index c.loop-b-test.true c.upper_digit.ensures c.upper_digit-in-loop-b.ensures) in
    (omega arith, writing_step (writing_step W c.put_byte-w.ensures) c.put_byte-w-in-loop-b.ensures)

pub shape_of-out : goal.shape_of-out
shape_of-out c = writing-length c.loop-b.invariant.1

pub returns : goal.returns
returns c = let l = c.loop-b in
    writing-end (writing-rest l.invariant.1 (hex-end c.args.src.now l.b-index c.loop-b-test.false))
