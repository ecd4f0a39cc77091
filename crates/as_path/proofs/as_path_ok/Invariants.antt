-- The loop's invariant: the path that is left is well formed where the path is. The measure is the bytes left.
use mathlib.Core.Path.{◌≡◌}
use lib.ListN.{length}
use Rattle.rules.specs.Attributes.{as_path_ok}
use Rattle.as_path.proofs.as_path_ok.Given as goal

abbrev pub invariant-loop-rest : goal.invariant-loop-rest
invariant-loop-rest l = as_path_ok l.rest ≡ as_path_ok l.path

abbrev pub decreases-loop-rest : goal.decreases-loop-rest
decreases-loop-rest l = length l.rest
