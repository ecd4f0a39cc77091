-- `hold` meets its contract.
use native.Mathlib.Omega.{arith}
use mathlib.Core.Path.{sym}
use Prim.Native.Nat.{◌-◌}
use lib.Seq.{length-take-le}
use Rattle.input_lines.specs.Lines.{held_max}
use Rattle.input_lines.proofs.Lining.{held_all, held-part}
use Rattle.input_lines.proofs.hold.Goals as goal

pub returns-then-s-held : goal.returns-then-s-held
returns-then-s-held c = held_all c.args.s.now c.requires.0 c.requires.1 (omega arith) c.put.ensures

pub slice_bounds-put-length : goal.slice_bounds-put-length
slice_bounds-put-length c = let a = c.args in
    sym (length-take-le (held_max - a.held) a.s.now (omega arith))

pub put-requires-2 : goal.put-requires-2
put-requires-2 c = let a = c.args in
    omega (arith, c.requires.0, c.requires.1, length-take-le (held_max - a.held) a.s.now (omega arith))

pub returns : goal.returns
returns c = held-part c.args.s.now c.requires.0 c.requires.1 (omega arith) c.put-2.ensures
