-- A set counts 1, a sequence as many ASNs as it says.
use mathlib.Core.Path.{◌∙◌}
use Rattle.as_path.proofs.Segments.{path_length-set, path_length_sequence}
use Rattle.as_path.proofs.segment_length.Goals as goal

pub returns-then-g-eq-AS_SET : goal.returns-then-g-eq-AS_SET
returns-then-g-eq-AS_SET c = path_length-set c.args.g.now c.if-g-eq-AS_SET.true

pub returns : goal.returns
returns c = c.wide.ensures.0 ∙ path_length_sequence c.args.g.now c.if-g-eq-AS_SET.false
