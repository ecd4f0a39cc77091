-- `hand_over` meets its contract.
use mathlib.Core.Path.{refl, ◌∙◌}
use native.Mathlib.Omega.{arith}
use Rattle.desk.proofs.Handing.{handing_start, handing_on_lem, handing_broken, handing_end}
use Rattle.desk.proofs.hand_over.Goals as goal

pub loop-at-init : goal.loop-at-init
loop-at-init g c = (handing_start c.args.piece.now c.requires.0 c.requires.3, c.requires.2, refl)

pub loop-at-preserved : goal.loop-at-preserved
loop-at-preserved g c =
    let i = c.loop-at.invariant in
    let k = c.feed-progress.auto in (
      handing_on_lem i.0 c.feed-progress.ensures c.emptied-now.ensures,
      record { frame = k.raw ∙ i.1.frame; result = k.made ∙ i.1.result; within = omega (arith, i.1.within, k.out) },
      k.out ∙ i.2,
    )

pub returns : goal.returns
returns g c = handing_end c.loop-at.invariant.0 (omega (arith, c.loop-at-test.false))

pub returns-then-is_err : goal.returns-then-is_err
returns-then-is_err g c = handing_broken (handing_on_lem c.loop-at.invariant.0 c.feed-progress.ensures c.emptied-now.ensures)
