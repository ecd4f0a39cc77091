-- `main` returns, whatever the input.
use Prim.Native.Nat.{ℕ}
use mathlib.Core.Path.{refl}
use native.Mathlib.Omega.{arith}
use lib.ListN.{length-replicate}
use Rattle.input_lines.specs.Lines.{held_max}
use Rattle.frames.specs.Sizes.{result_max}
use Rattle.desk_memory.specs.Sizes.{tables_max}
use Rattle.desk_lines.specs.Sizes.{frame_max}
use Rattle.desk_lines.specs.Machine.{begun}
use Rattle.desk.proofs.Handing.{ready-begun}
use Rattle.desk.proofs.main.Goals as goal

pub loop-init : goal.loop-init
unfolding begun
loop-init c = (
  refl,
  refl,
  record {
    frame = length-replicate {A = ℕ} frame_max 0;
    result = length-replicate {A = ℕ} result_max 0;
    within = omega arith;
  },
  ready-begun c.begin-state.ensures (length-replicate {A = ℕ} tables_max 0) (length-replicate {A = ℕ} held_max 0),
  rw c.begin-state.ensures (omega arith),
  rw c.begin-state.ensures refl,
)
