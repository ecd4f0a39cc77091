-- `new_tag_size` meets its contract: eleven bytes, or none.
use mathlib.Core.Path.{refl}
use native.Mathlib.Omega.{arith}
use Rattle.rewriting.proofs.Pieces.{new_tag-left, new_tag_untold, new_tag-is}
use Rattle.rewriting.proofs.planner.new_tag_size.Goals as goal

pub returns-then-left-ne0 : goal.returns-then-left-ne0
returns-then-left-ne0 c = (λ f. rw (new_tag-left f c.args.left c.args.state c.if-left-ne0.true) refl, omega arith)

pub returns-then-state-gt-INVALID : goal.returns-then-state-gt-INVALID
returns-then-state-gt-INVALID c = (λ f. rw (new_tag_untold f c.args.left c.args.state c.if-state-gt-INVALID.true) refl, omega arith)

pub returns : goal.returns
returns c = (λ f. rw (new_tag-is f c.args.left c.args.state (omega arith) (omega arith)) refl, omega arith)
