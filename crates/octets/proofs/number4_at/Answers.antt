-- `number4_at` meets its contract.
use mathlib.Core.Path.{ap, ◌∙◌}
use Rattle.rules.specs.Bytes.{big_endian, part}
use Rattle.octets.proofs.Slices.{part-is}
use Rattle.octets.proofs.number4_at.Goals as goal

pub returns : goal.returns
unfolding part
returns c = let a = c.args in
    c.number4.ensures ∙ ap big_endian (part-is a.s.now a.at 4)
