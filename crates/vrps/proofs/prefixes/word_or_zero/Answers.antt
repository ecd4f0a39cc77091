-- `word_or_zero` meets its contract: the word is there, or it is past the end.
use Prim.Native.Nat.{◌+◌, ◌*◌}
use mathlib.Core.Path.{refl, ◌∙◌}
use borrow.Author.Tests.{lt-leb, le-leb}
use lib.ListN.{length}
use Rattle.vrps.proofs.prefixes.word_or_zero.Goals as goal

pub returns-then-bytes-k : goal.returns-then-bytes-k
returns-then-bytes-k c = let a = c.args in rw (lt-leb (4 * a.k + 4) (length a.bytes.now) c.if-bytes-k.true) refl

pub returns : goal.returns
returns c = let a = c.args in
    c.number4_at.ensures ∙ rw (le-leb (4 * a.k + 4) (length a.bytes.now) c.if-bytes-k.false) refl
