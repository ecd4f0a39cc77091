-- The machine is ready, and the pieces that were read bound the line number.
use Rattle.std.proofs.Common.{◌≡◌, ◌*◌, ◌≤◌, length}
use Rattle.desk_lines.specs.Sizes.{answer_max}
use Rattle.desk_lines.specs.Machine.{Ready, Lent}
use Rattle.desk.proofs.main.Given as goal

abbrev pub invariant-loop : goal.invariant-loop
invariant-loop l =
    (length l.chunk ≡ 65536)
    × (length l.out ≡ 65536)
    × (Lent l.raw l.made l.out answer_max)
    × (Ready l.state l.tables l.line)
    × (l.state.number ≤ l.counter * 65536)
    × (l.state.wrote ≡ 0)
