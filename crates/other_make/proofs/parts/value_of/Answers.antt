-- `value_of` meets its contract: the value stands past the header.
use mathlib.Core.Path.{refl, ◌∙◌}
use lib.ListN.{get_or}
use lib.Seq.{drop-drop}
use Rattle.rules.specs.Attributes.{attribute, length_bytes}
use Rattle.octets.proofs.Slices.{tail_is}
use Rattle.other_make.proofs.parts.value_of.Goals as goal

pub returns : goal.returns
unfolding attribute
returns c = let a = c.args.a.now in
    tail_is a c.header_size-h.result ∙ rw (drop-drop (length_bytes (get_or a 0 0)) 2 a, c.header_size-h.ensures) refl
