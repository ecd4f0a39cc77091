-- `feed` meets its contract. The loop's invariant: the bytes before `at` are fed, and the memory lent has its sizes.
use Prim.Native.Nat.{◌-◌}
use mathlib.Core.Path.{◌≡◌}
use lib.ListN.{length}
use Rattle.desk_lines.specs.Machine.{Lent}
use Rattle.desk_lines.proofs.Feeding.{Feeding}
use Rattle.desk_lines.proofs.feed.Given as goal

abbrev pub invariant-loop-at : goal.invariant-loop-at
invariant-loop-at l =
    Feeding l.initial.now l.initial.tables l.initial.line l.initial.out l.piece l.at l.now l.tables l.line l.out × Lent l.raw l.made l.out l.now.wrote × (length l.out ≡ length l.initial.out)

abbrev pub decreases-loop-at : goal.decreases-loop-at
decreases-loop-at l = length l.piece - l.at
