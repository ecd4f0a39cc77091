-- `line_end` meets its contract. The loop's invariant: no byte before i is a line feed.
use lib.ListN.{take}
use Rattle.input_lines.specs.Lines.{NoFeed}
use Rattle.input_lines.proofs.line_end.Given as goal

abbrev pub invariant-loop-i : goal.invariant-loop-i
invariant-loop-i l = NoFeed (take l.i l.s)
