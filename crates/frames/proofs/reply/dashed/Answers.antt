-- `dashed` meets its contract.
use mathlib.Core.Path.{refl}
use Rattle.frames.proofs.reply.dashed.Goals as goal

pub returns : goal.returns
returns c = refl
