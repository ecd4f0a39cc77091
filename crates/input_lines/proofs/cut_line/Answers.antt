-- `cut_line` meets its contract.
use mathlib.Core.Path.{sym, ◌∙◌}
use lib.Seq.{length-take-le}
use Rattle.input_lines.proofs.Lining.{took_all, took_line}
use Rattle.input_lines.proofs.cut_line.Goals as goal

pub slice_bounds-hold-end : goal.slice_bounds-hold-end
slice_bounds-hold-end c = let e = c.line_end-n in
    sym (length-take-le e.result c.args.piece.now e.ensures.within)

pub returns-then-n-piece : goal.returns-then-n-piece
returns-then-n-piece c = took_all c.requires c.line_end-n.ensures (c.hold-held.auto.line ∙ c.requires.size) c.hold-held.ensures c.if-n-piece.true

pub returns : goal.returns
returns c = took_line c.requires c.line_end-n.ensures (c.hold-held.auto.line ∙ c.requires.size) c.hold-held.ensures c.if-n-piece.false
