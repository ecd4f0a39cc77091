-- `line_end` meets its contract. The loop's invariant: no byte before i is a line feed.
use mathlib.Core.Path.{◌≡◌}
use native.Mathlib.Omega.{arith}
use lib.ListN.{length}
use Rattle.input_lines.proofs.Lining.{free_more}
use Rattle.input_lines.proofs.line_end.Goals as goal

pub loop-i-init : goal.loop-i-init
loop-i-init c = tt

pub returns-then-b-eq-LINE_FEED : goal.returns-then-b-eq-LINE_FEED
returns-then-b-eq-LINE_FEED c = record { within = omega arith; free = c.loop-i.invariant; ended = λ h. c.if-b-eq-LINE_FEED.true }

pub loop-i-preserved : goal.loop-i-preserved
loop-i-preserved c = free_more c.args.s.now c.loop-i.i (omega arith) c.loop-i.invariant c.if-b-eq-LINE_FEED.false

pub returns : goal.returns
returns c = let all : length c.args.s.now ≡ c.loop-i.i = omega arith in
    record { within = omega arith; free = rw all c.loop-i.invariant; ended = λ h. absurd (omega arith) }
