-- `note` meets its contract: the value behind the header, noted by its type.
use lib.ListN.{get_or}
use lib.Seq.{drop-drop}
use Rattle.rules.specs.Attributes.{length_bytes, attribute}
use Rattle.octets.proofs.Slices.{tail_is}
use Rattle.attributes.proofs.values.note.Goals as goal

pub returns : goal.returns
unfolding attribute
returns c = let a = c.args.a.now in
    let h = c.header_size-from in
    rw (drop-drop (length_bytes (get_or a 0 0)) 2 a, ← h.ensures, ← tail_is a h.result) c.note_value.ensures
