-- The loop's invariant: the origin so far, or the last of the segments that are left, gives the origin of the path. The measure is the bytes
-- left.
use mathlib.Core.Path.{◌≡◌}
use mathlib.Core.List.{map}
use lib.ListN.{length}
use Rattle.rules.specs.Bytes.{last_or}
use Rattle.rules.specs.Attributes.{segments}
use Rattle.rules.specs.Origin.{origin_in, final_origin, told_origin}
use Rattle.as_path.proofs.path_origin.Given as goal

abbrev pub invariant-loop-segment : goal.invariant-loop-segment
invariant-loop-segment l = last_or (told_origin l.origin) (map final_origin (segments l.rest)) ≡ origin_in l.own (segments l.path)

abbrev pub decreases-loop-segment : goal.decreases-loop-segment
decreases-loop-segment l = length l.rest
