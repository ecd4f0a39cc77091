-- `put_kept` meets its contract: nothing is stored of one that is dropped, any other whole.
use mathlib.Core.Path.{◌≡◌, sym, ap, ◌∙◌}
use native.Mathlib.Omega.{arith}
use lib.ListN.{length}
use Rattle.octets.proofs.Slices.{read_from, read_all}
use Rattle.octets.proofs.Writing.{stored-none}
use Rattle.communities.specs.Tags.{drop_test, kept}
use Rattle.communities.proofs.Dropped.{kept-none, kept_whole}
use Rattle.communities.proofs.left.put_kept.Goals as goal

pub returns-then-drops : goal.returns-then-drops
returns-then-drops c = stored-none _ _ (kept-none _ c.args.c.now (sym c.drops.ensures ∙ c.if-drops.true))

pub put-requires : goal.put-requires
put-requires c =
    let whole : kept (drop_test c.args.dropping) c.args.c.now ≡ c.args.c.now = kept_whole _ _ (sym c.drops.ensures ∙ c.if-drops.false) in
    omega (arith, c.requires.1, ap length whole)

pub returns : goal.returns
unfolding read_from
returns c =
    let whole : kept (drop_test c.args.dropping) c.args.c.now ≡ c.args.c.now = kept_whole _ _ (sym c.drops.ensures ∙ c.if-drops.false) in
    rw (whole, ← read_all c.args.c.now 8 c.requires.0) c.put.ensures
