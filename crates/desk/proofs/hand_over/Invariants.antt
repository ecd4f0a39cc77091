-- The bytes before `at` are consumed, and the memory lent has its sizes.
use Rattle.std.proofs.Common.{◌-◌, ◌≡◌, length}
use Rattle.desk_lines.specs.Sizes.{answer_max}
use Rattle.desk_lines.specs.Machine.{Lent}
use Rattle.desk.proofs.Handing.{Handing}
use Rattle.desk.proofs.hand_over.Given as goal

abbrev pub invariant-loop-at : goal.invariant-loop-at
invariant-loop-at g l =
    Handing l.initial.now l.initial.tables l.initial.line l.piece l.at l.now l.tables l.line
    × Lent l.raw l.made l.out answer_max
    × (length l.out ≡ length l.initial.out)

abbrev pub decreases-loop-at : goal.decreases-loop-at
decreases-loop-at g l = length l.piece - l.at
