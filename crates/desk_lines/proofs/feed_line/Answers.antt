-- `feed_line` meets its contract.
use mathlib.Core.Path.{sym}
use native.Mathlib.Omega.{arith}
use lib.Seq.{length-take-le}
use Rattle.desk_lines.proofs.Feeding.{fed-held, fed-answered}
use Rattle.desk_lines.proofs.feed_line.Goals as goal

pub slice_bounds-answer_line-end-then-cut : goal.slice_bounds-answer_line-end-then-cut
slice_bounds-answer_line-end-then-cut c = let t = c.cut_line-cut in
    sym (length-take-le t.result.held t.new.line (omega (arith, t.ensures.holds.within, t.ensures.holds.size)))

pub returns-then-cut : goal.returns-then-cut
returns-then-cut c = fed-answered c.args.state c.args.tables.now c.requires.0 c.cut_line-cut.ensures c.requires.2.within c.if-cut.true c.answer_line-state.ensures

pub returns : goal.returns
returns c = fed-held c.args.state c.args.tables.now c.requires.0 c.cut_line-cut.ensures c.args.out.now (omega (arith, c.requires.2.within)) c.if-cut.false
