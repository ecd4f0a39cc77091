-- `same_tag` meets its contract: no byte where there is no tag, else its eight bytes.
use mathlib.Core.Path.{◌≡◌, refl, ◌∙◌}
use mathlib.Core.List.{List, [], ◌∷◌}
use Prim.Native.Nat.{ℕ}
use native.Mathlib.Omega.{arith}
use borrow.Author.Tests.{ne_eqb}
use lib.Dec.{eqb}
use lib.ListN.{length}
use Rattle.rules.specs.Bytes.{same_bytes}
use Rattle.communities.proofs.Told.{tag-told, tag_untold}
use Rattle.communities.proofs.tags.same_tag.Goals as goal

-- Only no byte is the same as no byte.
no_byte : (t : List ℕ) → eqb (length t) 0 ≡ same_bytes [] t
unfolding same_bytes
no_byte [] = refl
no_byte (x ∷ t) = ne_eqb (length (x ∷ t)) 0 (λ z. omega arith)

pub returns-then-state-gt-INVALID : goal.returns-then-state-gt-INVALID
returns-then-state-gt-INVALID c = let a = c.args in
    no_byte a.t.now ∙ rw (tag_untold a.state (omega arith)) refl

pub returns : goal.returns
returns c = let a = c.args in
    c.same_bytes.ensures ∙ rw (tag-told a.state (omega arith)) refl
