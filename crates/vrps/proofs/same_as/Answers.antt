-- `same_as` meets its contract.
use mathlib.Core.Path.{◌∙◌}
use native.Mathlib.Omega.{arith}
use Rattle.vrps.proofs.Records.{same_as-zero, same_as_told}
use Rattle.vrps.proofs.same_as.Goals as goal

pub returns-then-asn-eq0 : goal.returns-then-asn-eq0
returns-then-asn-eq0 c = same_as-zero _ _ (omega (arith, c.if-asn-eq0.true))

pub returns : goal.returns
returns c = c.eq.ensures ∙ same_as_told _ c.args.origin c.if-asn-eq0.false
