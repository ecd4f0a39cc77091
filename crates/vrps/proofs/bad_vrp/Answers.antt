-- `bad_vrp` meets its contract: the laws of a VRP, at the width handed in.
use mathlib.Core.Path.{ap, ◌∙◌}
use native.Mathlib.Omega.{arith}
use lib.Dec.{ltb}
use Rattle.rules.specs.Origin.{vrp_size, vrp}
use Rattle.vrps.proofs.Records.{bad_length, bad_most}
use Rattle.vrps.proofs.bad_vrp.Goals as goal

pub bounds-bytes-at : goal.bounds-bytes-at
unfolding vrp_size
bounds-bytes-at c = omega (arith, c.requires)

pub bounds-bytes-at-2 : goal.bounds-bytes-at-2
unfolding vrp_size
bounds-bytes-at-2 c = omega (arith, c.requires)

pub returns-then-most-bytes : goal.returns-then-most-bytes
unfolding vrp
returns-then-most-bytes c = let a = c.args in
    bad_length a.width (vrp a.width a.bytes.now) c.if-most-bytes.true

pub returns : goal.returns
unfolding vrp
returns c = let a = c.args in
    ap (ltb a.width) c.wide.ensures.0 ∙ bad_most a.width (vrp a.width a.bytes.now) c.if-most-bytes.false
