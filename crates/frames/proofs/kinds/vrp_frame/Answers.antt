-- `vrp_frame` meets its contract.
use native.Mathlib.Omega.{arith}
use Rattle.octets.proofs.Slices.{tail_length}
use Rattle.frames.proofs.Tabling.{vrp-short, vrp-long, vrp-full, vrp_bad, vrp-taken}
use Rattle.frames.proofs.kinds.vrp_frame.Goals as goal

pub returns-then-frame-size : goal.returns-then-frame-size
returns-then-frame-size c held e = vrp-short _ held e _ _ (rw c.record_size-size.ensures.0 at c.if-frame-size.true)

pub returns-then-size-frame : goal.returns-then-size-frame
returns-then-size-frame c held e = let size = c.record_size-size.ensures.0 in
    vrp-long _ held e _ _ (rw size at c.if-frame-size.false) (rw size at c.if-size-frame.true)

pub returns-then-size-used : goal.returns-then-size-used
returns-then-size-used c held e = let size = c.record_size-size.ensures.0 in
    vrp-full _ held e _ _ (rw size at c.if-frame-size.false) (rw size at c.if-size-frame.false) (rw size at c.if-size-used.true)

pub bad_vrp-requires : goal.bad_vrp-requires
bad_vrp-requires c = omega (arith, tail_length c.args.frame.now 1, c.record_size-size.ensures.0)

pub returns-then-bad_vrp : goal.returns-then-bad_vrp
returns-then-bad_vrp c held e = let size = c.record_size-size.ensures.0 in
    vrp_bad _ held e _ _ (rw size at c.if-frame-size.false) (rw size at c.if-size-frame.false) (rw size at c.if-size-used.false) c.bad_vrp.ensures c.if-bad_vrp.true

pub returns : goal.returns
returns c held e = let size = c.record_size-size.ensures.0 in
    vrp-taken _ held e _ _ (rw size at c.if-frame-size.false) (rw size at c.if-size-frame.false) (rw size at c.if-size-used.false) c.bad_vrp.ensures c.if-bad_vrp.false
