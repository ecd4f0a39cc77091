-- `put_new_tag` meets its contract: by its three ways out, no bytes twice, and the eleven bytes.
use Rattle.octets.proofs.Writing.{stored-none}
use native.Mathlib.Omega.{arith}
use Rattle.rewriting.proofs.Pieces.{new_tag-left, new_tag_untold, new_tag-is}
use Rattle.rewriting.proofs.writer.put_new_tag.Goals as goal

pub returns-then-left-ne0 : goal.returns-then-left-ne0
returns-then-left-ne0 c = let a = c.args in
    stored-none _ _ (new_tag-left a.flags a.left a.state c.if-left-ne0.true)

pub returns-then-state-gt-INVALID : goal.returns-then-state-gt-INVALID
returns-then-state-gt-INVALID c = let a = c.args in
    stored-none _ _ (new_tag_untold a.flags a.left a.state (omega (arith, c.if-state-gt-INVALID.true)))

pub put-requires : goal.put-requires
put-requires c = let a = c.args in
    rw (new_tag-is a.flags a.left a.state c.if-left-ne0.false (omega (arith, c.if-state-gt-INVALID.false))) at c.requires

pub returns : goal.returns
returns c = let a = c.args in
    rw (new_tag-is a.flags a.left a.state c.if-left-ne0.false (omega (arith, c.if-state-gt-INVALID.false)))
    c.put.ensures
