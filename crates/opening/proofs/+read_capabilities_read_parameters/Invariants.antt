use Rattle.std.proofs.Common.{◌+◌, length}
use Rattle.opening.proofs.+read_capabilities_read_parameters.Given as goal

-- What is left to read falls at each call.
abbrev pub decreases-read_capabilities : goal.decreases-read_capabilities
decreases-read_capabilities l = length l.c.now + length l.after.now + 1

abbrev pub decreases-read_parameters : goal.decreases-read_parameters
decreases-read_parameters l = length l.s.now
