-- `covering` meets its contract.
use Prim.Native.Nat.{ℕ, ◌/◌}
use mathlib.Core.Path.{◌≡◌, refl, sym, ap, ◌∙◌}
use native.Mathlib.Omega.{arith}
use lib.Seq.{length-take-le}
use Rattle.rules.specs.Bytes.{big_endian, part}
use Rattle.rules.specs.Origin.{vrp_size, vrp}
use Rattle.vrps.specs.Widths.{bits}
use Rattle.vrps.proofs.Records.{good_length, covers_shorter, covers-agree}
use Rattle.vrps.proofs.Words.{whole_bits, prefix_width, agree-first}
use Rattle.vrps.proofs.covering.Goals as goal

pub bounds-bytes-at : goal.bounds-bytes-at
unfolding vrp_size
bounds-bytes-at c = omega (arith, c.requires.0)

pub returns-then-len-n : goal.returns-then-len-n
unfolding vrp
returns-then-len-n c = let a = c.args in
    covers_shorter (bits a.family) (vrp (bits a.family) a.bytes.now) _ a.len (rw c.octets-at.ensures.0 at c.if-len-n.true)

pub number4_at-requires : goal.number4_at-requires
unfolding vrp_size
number4_at-requires c = omega (arith, c.requires.0)

pub same_leading-requires : goal.same_leading-requires
unfolding vrp
same_leading-requires c = let a = c.args in
    let w : bits a.family ≡ 32 = c.if-family-eq-IPV4.true in
    let l = rw (← c.octets-at.ensures.0) at (good_length (bits a.family) (vrp (bits a.family) a.bytes.now) c.requires.1) in
    omega (arith, l)

pub returns-then-family-eq-IPV4 : goal.returns-then-family-eq-IPV4
unfolding vrp
returns-then-family-eq-IPV4 c = let a = c.args in
    let w : bits a.family ≡ 32 = c.if-family-eq-IPV4.true in
    let q : 4 ≡ bits a.family / 8 = omega arith in
    covers-agree (bits a.family) (vrp (bits a.family) a.bytes.now) _ a.len (rw c.octets-at.ensures.0 at c.if-len-n.false)
    (c.number4_at.ensures ∙ ap (λ (n : ℕ). big_endian (part 0 n a.bytes.now)) q)
    ((rw c.octets-at.ensures.0 at c.same_leading.ensures) ∙ agree-first a.prefix (omega arith, omega arith, omega arith, omega arith) w _ _)

pub slice_bounds-same_prefix-end : goal.slice_bounds-same_prefix-end
unfolding vrp_size
slice_bounds-same_prefix-end c = sym (length-take-le c.octets-at.result c.args.bytes.now (omega (arith, c.requires.0)))

pub same_prefix-requires : goal.same_prefix-requires
unfolding vrp vrp_size
same_prefix-requires c = let a = c.args in
    let w = whole_bits a.family in
    rw (c.octets-at.ensures.0, prefix_width w a.bytes.now (omega (arith, c.requires.0))) (w, good_length (bits a.family) (vrp (bits a.family) a.bytes.now) c.requires.1)

pub returns : goal.returns
unfolding vrp vrp_size part
returns c = let a = c.args in
    covers-agree (bits a.family) (vrp (bits a.family) a.bytes.now) _ a.len (rw c.octets-at.ensures.0 at c.if-len-n.false) refl
    (rw (c.octets-at.ensures.0, prefix_width (whole_bits a.family) a.bytes.now (omega (arith, c.requires.0))) at c.same_prefix.ensures)
