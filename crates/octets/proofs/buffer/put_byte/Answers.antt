-- `put_byte` meets its contract: one store is a splice of one byte.
use mathlib.Core.Path.{refl}
use mathlib.Core.List.{[], ◌∷◌}
use lib.Seq.{sets-eq}
use Rattle.octets.specs.Buffer.{splice}
use borrow.Author.Rules.{rules}
use Rattle.octets.proofs.buffer.put_byte.Goals as goal

pub returns : goal.returns
unfolding splice
returns c = record { next = refl; is = sets-eq (c.args.x ∷ []) c.args.out.now c.args.at (search rules) }
