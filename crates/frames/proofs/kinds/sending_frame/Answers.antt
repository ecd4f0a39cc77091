-- `sending_frame` meets its contract.
use mathlib.Core.Path.{sym}
use native.Mathlib.Omega.{arith}
use lib.ListN.{drop}
use lib.Seq.{length-take-le}
use Rattle.rules.specs.Settings.{block_max}
use Rattle.octets.proofs.Slices.{tail_is}
use Rattle.frames.proofs.Framing.{sending_short, sending_told}
use Rattle.frames.proofs.kinds.sending_frame.Goals as goal

pub returns-then-frame-lt-SENDING_MIN : goal.returns-then-frame-lt-SENDING_MIN
returns-then-frame-lt-SENDING_MIN c = let a = c.args in
    sending_short a.session a.frame.now a.made.now c.if-frame-lt-SENDING_MIN.true

pub slice_bounds-send_write-end-3 : goal.slice_bounds-send_write-end-3
slice_bounds-send_write-end-3 c = sym (length-take-le block_max c.args.made.now (omega (arith, c.requires)))

pub returns : goal.returns
returns c = let a = c.args in
    sending_told a.session a.frame.now (drop block_max a.made.now) c.if-frame-lt-SENDING_MIN.false (tail_is a.frame.now 3) (length-take-le block_max a.made.now (omega (arith, c.requires))) _ c.send_write.ensures
