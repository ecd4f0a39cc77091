-- `finish` meets its contract.
use mathlib.Core.Path.{sym}
use native.Mathlib.Omega.{arith}
use lib.Seq.{length-take-le}
use Rattle.octets.proofs.Writing.{stored-none}
use Rattle.desk_lines.proofs.Feeding.{ended-none, ended-said}
use Rattle.desk_lines.proofs.finish.Goals as goal

pub returns-then-held-eq0 : goal.returns-then-held-eq0
returns-then-held-eq0 c = let a = c.args in
    (stored-none a.out.now a.state.wrote (ended-none a.state a.tables.now a.line.now c.if-held-eq0.true), omega arith)

pub slice_bounds-answer_line-end : goal.slice_bounds-answer_line-end
slice_bounds-answer_line-end c = let a = c.args in
    sym (length-take-le a.state.held a.line.now (omega (arith, c.requires.0.holds.within, c.requires.0.holds.size)))

pub returns : goal.returns
returns c = let a = c.args in
    (rw (ended-said a.state a.tables.now a.line.now c.requires.0 c.if-held-eq0.false) c.answer_line-answered.ensures.said, c.answer_line-answered.ensures.room)
