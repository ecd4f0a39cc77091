-- The final origin is none, 0 or the number in the last four bytes.
use Prim.Native.Nat.{◌-◌}
use mathlib.Core.Path.{ap, ◌∙◌}
use mathlib.Core.Option.{some}
use lib.ListN.{length}
use Rattle.rules.specs.Bytes.{big_endian}
use Rattle.rules.specs.Attributes.{segment_size}
use Rattle.rules.specs.Origin.{told_origin}
use Rattle.octets.proofs.Slices.{tail_is}
use Rattle.as_path.proofs.Segments.{final_none, final_empty, final_last}
use borrow.Author.Rules.{rules}
use Rattle.as_path.proofs.final_origin.Goals as goal

pub bounds-g-0 : goal.bounds-g-0
unfolding segment_size
bounds-g-0 c = search rules

pub returns-then-g-ne-AS_SEQUENCE : goal.returns-then-g-ne-AS_SEQUENCE
unfolding told_origin
returns-then-g-ne-AS_SEQUENCE c = final_none c.args.g.now c.if-g-ne-AS_SEQUENCE.true

pub returns-then-g-lt6 : goal.returns-then-g-lt6
unfolding told_origin
returns-then-g-lt6 c = final_empty c.args.g.now c.if-g-ne-AS_SEQUENCE.false c.if-g-lt6.true

pub returns : goal.returns
unfolding told_origin
returns c = let g = c.args.g.now in
    ap some (c.number4.ensures ∙ ap big_endian (tail_is g (length g - 4)))
    ∙ final_last g c.if-g-ne-AS_SEQUENCE.false c.requires c.if-g-lt6.false
