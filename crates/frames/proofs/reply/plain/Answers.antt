-- `plain` meets its contract.
use mathlib.Core.Path.{refl}
use Rattle.frames.proofs.reply.plain.Goals as goal

pub returns : goal.returns
returns c = refl
