-- `allows` meets its contract.
use native.Mathlib.Omega.{arith}
use Rattle.rules.specs.Origin.{vrp_size, vrp}
use Rattle.vrps.specs.Widths.{bits}
use Rattle.vrps.proofs.Records.{allowed_longer, allowed_as}
use Rattle.vrps.proofs.allows.Goals as goal

pub bounds-bytes-at : goal.bounds-bytes-at
unfolding vrp_size
bounds-bytes-at c = omega (arith, c.requires)

pub returns-then-bytes-at : goal.returns-then-bytes-at
unfolding vrp
returns-then-bytes-at c = let a = c.args in
    allowed_longer (vrp (bits a.family) a.bytes.now) a.len _ (rw c.octets-at.ensures.0 at c.if-bytes-at.true)

pub number4_at-requires : goal.number4_at-requires
unfolding vrp_size
number4_at-requires c = omega (arith, c.requires)

pub returns : goal.returns
unfolding vrp
returns c = let a = c.args in
    allowed_as (vrp (bits a.family) a.bytes.now) a.len _ (rw c.octets-at.ensures.0 at c.if-bytes-at.false) (rw c.octets-at.ensures.0 at c.number4_at.ensures) c.same_as.ensures
