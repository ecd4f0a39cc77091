-- `choose` meets its contract. The loop's invariant: the candidates before those left to the iterator are met.
use Prim.Native.Nat.{ℕ}
use mathlib.Core.Path.{◌≡◌, sym, ◌∙◌}
use mathlib.Core.Bool.{true}
use mathlib.Core.List.{List}
use Rattle.rules.specs.Settings.{mode_ok}
use Rattle.rules.specs.Choice.{told_chosen}
use Rattle.choice.proofs.Candidates.{lent, range_bad, fault_bad, clean-good, clean_reads, offer-outside, offer-inside}
use Rattle.choice.proofs.Choosing.{met_start, met_room, met_next, choose_setting, choose_torn, choose_many, choose_bad, choose-none, choose-some}
use Rattle.choice.proofs.choose.Goals as goal
use Rattle.choice.proofs.choose.Goals.{then-offers-ne0-via-then-offers-ne0, then-offers-ne0-via-else-offers-ne0+then-count-gt-CANDIDATES_MAX}

pub returns-then-not-mode_ok : goal.returns-then-not-mode_ok
unfolding told_chosen
returns-then-not-mode_ok c = choose_setting _ _ _ _ (sym c.mode_ok.ensures ∙ c.if-not-mode_ok.true)

pub returns-then-offers-ne0 : goal.returns-then-offers-ne0
unfolding told_chosen
returns-then-offers-ne0 c =
    let ok : mode_ok c.args.mode ≡ true = sym c.mode_ok.ensures ∙ c.if-not-mode_ok.false in
    elim c.then-offers-ne0.branch [
      | then-offers-ne0-via-then-offers-ne0 w ↦ choose_torn _ _ _ _ ok w.if-offers-ne0.true
      | then-offers-ne0-via-else-offers-ne0+then-count-gt-CANDIDATES_MAX w ↦
          choose_many _ _ _ _ ok w.if-offers-ne0.false w.if-count-gt-CANDIDATES_MAX.true
    ]

pub loop-index-init : goal.loop-index-init
loop-index-init c = rw (c.into_iter-index-iterator.ensures.into_iter_gives, c.enumerate-index-items.ensures.source, c.enumerate-index-items.ensures.count, c.chunks_exact.ensures.rest)
    (met_start _ _ _ _, c.chunks_exact.ensures.size)

pub returns-then-buffer-end : goal.returns-then-buffer-end
unfolding told_chosen
returns-then-buffer-end c =
    let ok : mode_ok c.args.mode ≡ true = sym c.mode_ok.ensures ∙ c.if-not-mode_ok.false in
    let b : List ℕ = c.args.buffer.now in
    let o = c.read_offer-offer.result in
    let e = c.in-Some.ensures.steps in
    rw e.1 (choose_bad _ _ _ _ ok c.if-offers-ne0.false c.if-count-gt-CANDIDATES_MAX.false c.loop-index.invariant.0 _ _ e.0.1.0 (e.0.1.1 ∙ c.loop-index.invariant.1) c.read_offer-offer.ensures
    (offer-outside b o c.if-buffer-end.true))

pub returns-then-out_of_range : goal.returns-then-out_of_range
unfolding told_chosen
returns-then-out_of_range c =
    let ok : mode_ok c.args.mode ≡ true = sym c.mode_ok.ensures ∙ c.if-not-mode_ok.false in
    let b : List ℕ = c.args.buffer.now in
    let o = c.read_offer-offer.result in
    let e = c.in-Some.ensures.steps in
    rw e.1 (choose_bad _ _ _ _ ok c.if-offers-ne0.false c.if-count-gt-CANDIDATES_MAX.false c.loop-index.invariant.0 _ _ e.0.1.0 (e.0.1.1 ∙ c.loop-index.invariant.1) c.read_offer-offer.ensures
    (offer-inside b o c.if-buffer-end.false (range_bad (lent b o) c.out_of_range.ensures c.if-out_of_range.true)))

pub returns-in_default : goal.returns-in_default
unfolding told_chosen
returns-in_default c =
    let ok : mode_ok c.args.mode ≡ true = sym c.mode_ok.ensures ∙ c.if-not-mode_ok.false in
    let b : List ℕ = c.args.buffer.now in
    let o = c.read_offer-offer.result in
    let e = c.in-Some.ensures.steps in
    rw e.1 (choose_bad _ _ _ _ ok c.if-offers-ne0.false c.if-count-gt-CANDIDATES_MAX.false c.loop-index.invariant.0 _ _ e.0.1.0 (e.0.1.1 ∙ c.loop-index.invariant.1) c.read_offer-offer.ensures
    (offer-inside b o c.if-buffer-end.false (fault_bad (lent b o) c.out_of_range.ensures c.if-out_of_range.false c.read.ensures c.in_default.is)))

pub take-best-requires : goal.take-best-requires
take-best-requires c =
    let e = c.in-Some.ensures.steps in
    (clean_reads _ c.read.ensures c.in-Ok.is, met_room c.loop-index.invariant.0 _ _ e.0.1.0 (e.0.1.1 ∙ c.loop-index.invariant.1) c.read_offer-offer.ensures c.if-count-gt-CANDIDATES_MAX.false)

pub loop-index-preserved : goal.loop-index-preserved
loop-index-preserved c =
    let b : List ℕ = c.args.buffer.now in
    let o = c.read_offer-offer.result in
    let e = c.in-Some.ensures.steps in
    let good = offer-inside b o c.if-buffer-end.false (clean-good (lent b o) c.out_of_range.ensures c.if-out_of_range.false c.read.ensures c.in-Ok.is) in
    let next = met_next c.loop-index.invariant.0 _ _ e.0.1.0 (e.0.1.1 ∙ c.loop-index.invariant.1) c.read_offer-offer.ensures good (rw e.1 at c.take-best.ensures) in
    (rw e.2 next, e.0.0 ∙ c.loop-index.invariant.1)

pub returns-in_default-best : goal.returns-in_default-best
unfolding told_chosen
returns-in_default-best c =
    let ok : mode_ok c.args.mode ≡ true = sym c.mode_ok.ensures ∙ c.if-not-mode_ok.false in
    let e = c.in-None.ensures.steps in
    choose-none _ _ _ _ ok c.if-offers-ne0.false c.if-count-gt-CANDIDATES_MAX.false c.loop-index.invariant.0 (rw c.loop-index.invariant.1 at e.0.1.0) c.mode_meant-meant.ensures c.in_default-best.is

pub returns : goal.returns
unfolding told_chosen
returns c =
    let ok : mode_ok c.args.mode ≡ true = sym c.mode_ok.ensures ∙ c.if-not-mode_ok.false in
    let e = c.in-None.ensures.steps in
    choose-some _ _ _ _ ok c.if-offers-ne0.false c.if-count-gt-CANDIDATES_MAX.false c.loop-index.invariant.0 (rw c.loop-index.invariant.1 at e.0.1.0) c.mode_meant-meant.ensures c.in-Some-best.is
