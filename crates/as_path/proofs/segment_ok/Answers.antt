-- A segment's type, then its count, then its ASNs.
use mathlib.Core.Path.{sym, ◌∙◌}
use mathlib.Core.Logic.{inl, inr}
use mathlib.Core.Path.{◌≡◌}
use mathlib.Core.Logic.{◌⊎◌}
use lib.ListN.{get_or}
use native.Mathlib.Omega.{arith}
use Rattle.as_path.proofs.Segments.{segment_type, segment_count, segment_asns}
use Rattle.as_path.proofs.segment_ok.Goals as goal
use Rattle.as_path.proofs.segment_ok.Goals.{then-kind-ne-AS_SET+else-kind-ne-AS_SEQUENCE, else-kind-ne-AS_SET}

pub returns-then-kind-ne-AS_SEQUENCE : goal.returns-then-kind-ne-AS_SEQUENCE
returns-then-kind-ne-AS_SEQUENCE c = sym (segment_type c.args.g.now c.if-kind-ne-AS_SET.true c.if-kind-ne-AS_SEQUENCE.true)

pub returns-then-g-lt1 : goal.returns-then-g-lt1
returns-then-g-lt1 c = sym (segment_count c.args.g.now (omega arith))

pub returns : goal.returns
returns c = let kind : (get_or c.args.g.now 0 0 ≡ 1) ⊎ (get_or c.args.g.now 0 0 ≡ 2) = elim c.if-kind-ne-AS_SET.branch [ then-kind-ne-AS_SET+else-kind-ne-AS_SEQUENCE w ↦ inr w.if-kind-ne-AS_SEQUENCE.false | else-kind-ne-AS_SET w ↦ inl w.if-kind-ne-AS_SET.false ] in
    c.asns_ok.ensures ∙ sym (segment_asns c.args.g.now kind (omega arith))
