-- The loop's invariant: what is counted and the length of the path that is left make the length of the path, which is at most its bytes.
-- The measure is the bytes left.
use Prim.Native.Nat.{◌+◌, ◌≤◌}
use mathlib.Core.Path.{◌≡◌}
use lib.ListN.{length}
use Rattle.rules.specs.Attributes.{segments}
use Rattle.rules.specs.Choice.{path_length}
use Rattle.as_path.proofs.path_length.Given as goal

abbrev pub invariant-loop-segment : goal.invariant-loop-segment
invariant-loop-segment l = (l.total + path_length (segments l.rest) ≡ path_length (segments l.path)) × (l.total + length l.rest ≤ length l.path)

abbrev pub decreases-loop-segment : goal.decreases-loop-segment
decreases-loop-segment l = length l.rest
