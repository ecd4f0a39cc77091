-- `look_up` meets its contract: a length above the width, or the law of the look-up.
use native.Mathlib.Omega.{arith}
use mathlib.Core.Path.{refl}
use Rattle.rules.specs.Origin.{prefix_in}
use Rattle.rules.specs.Index.{told_looked_up}
use Rattle.vrps.specs.Widths.{bits}
use Rattle.vrps.proofs.Words.{whole_bits, prefix-below}
use Rattle.lookup.proofs.Promising.{looked_setting, looked}
use Rattle.lookup.proofs.look_up.Goals as goal

pub returns-then-family-route_bits : goal.returns-then-family-route_bits
unfolding told_looked_up
returns-then-family-route_bits c = let a = c.args in
    looked_setting (bits a.family) a.memory.now (prefix_in (bits a.family) a.prefix) a.len a.asn (omega arith)

pub returns : goal.returns
unfolding told_looked_up
returns c = let a = c.args in
    let w = bits a.family in
    let g = c.well_formed.1.1.0 in
    let f = c.found.ensures in
    looked w a.memory.now (prefix_in w a.prefix) a.len a.asn a.prefix refl
    (prefix-below a.prefix (omega (arith, g), omega (arith, g), omega (arith, g), omega (arith, g)) w (whole_bits a.family).most)
    (omega arith) (whole_bits a.family).most c.wide-route_bits.ensures.0 c.look.ensures (rw (f.0, f.1) refl)
