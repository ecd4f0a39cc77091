-- `sift_one` meets its contract: kept, thrown out, or a tag that is dropped alone.
use mathlib.Core.Path.{◌≡◌, sym, ap, ◌∙◌}
use native.Mathlib.Omega.{arith}
use lib.ListN.{length}
use Rattle.communities.specs.Tags.{drop_test, kept}
use Rattle.communities.proofs.Dropped.{kept-none, kept_whole}
use Rattle.communities.proofs.Thrown.{kept_unthrown, thrown-one, thrown-none}
use Rattle.communities.proofs.left.sift_one.Goals as goal

pub returns-then-not-drops : goal.returns-then-not-drops
returns-then-not-drops c = let z = sym c.drops.ensures ∙ c.if-not-drops.true in
    record {
      left = omega (arith, ap length (kept_whole (drop_test c.args.dropping) c.args.c.now z), c.requires.0);
      most = omega arith;
      thrown = thrown-none c.args.c.now _ (kept_unthrown c.args.c.now c.args.dropping z);
    }

pub returns-then-is_erroneous : goal.returns-then-is_erroneous
returns-then-is_erroneous c =
    let none_left : let a = c.args in length (kept (drop_test a.dropping) a.c.now) ≡ 0 = ap length (kept-none _ _ (sym c.drops.ensures ∙ c.if-not-drops.false)) in
    record { left = omega (arith, none_left); most = omega arith; thrown = thrown-one _ _ (sym c.is_erroneous.ensures ∙ c.if-is_erroneous.true) }

pub returns : goal.returns
returns c =
    let none_left : let a = c.args in length (kept (drop_test a.dropping) a.c.now) ≡ 0 = ap length (kept-none _ _ (sym c.drops.ensures ∙ c.if-not-drops.false)) in
    record { left = omega (arith, none_left); most = omega arith; thrown = thrown-none _ _ (sym c.is_erroneous.ensures ∙ c.if-is_erroneous.false) }
