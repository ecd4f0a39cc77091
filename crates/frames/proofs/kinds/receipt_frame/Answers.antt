-- `receipt_frame` meets its contract: the verdict first, then the state by the AS_PATH that receipt tells of.
use mathlib.Core.Path.{refl, sym, ap, ◌∙◌}
use native.Mathlib.Omega.{arith}
use Rattle.rules.specs.Bytes.{one_of, exists}
use Rattle.rules.specs.Answers.{number}
use Rattle.rules.specs.Changes.{thrown_told}
use Rattle.rules.specs.Origin.{vrps, state_in}
use Rattle.vrps.specs.Widths.{bits}
use Rattle.vrps.proofs.Words.{whole_bits, lent-whole, lent-read}
use Rattle.frames.proofs.Framing.{receipt-short, receipt_setting}
use Rattle.frames.proofs.Fields.{tells_dash}
use Rattle.frames.proofs.Receiving.{receipt-declined, receipt-ineligible, receipt-room, receipt-taken}
use Rattle.frames.proofs.kinds.receipt_frame.Goals as goal

pub returns-then-frame-head : goal.returns-then-frame-head
unfolding thrown_told number one_of exists
returns-then-frame-head c = let a = c.args in
    rw c.dashed.ensures
    (tells_dash (bits a.family) a.frame.now refl (receipt-short (bits a.family) a.session a.table.now a.frame.now a.made.now (rw c.octets-head.ensures.0 at c.if-frame-head.true)) refl)

pub returns-then-not-prefix_length_ok : goal.returns-then-not-prefix_length_ok
unfolding thrown_told number one_of exists
returns-then-not-prefix_length_ok c = let a = c.args in
    let long = rw c.octets-head.ensures.0 at c.if-frame-head.false in
    rw c.dashed-then-not-prefix_length_ok.ensures
    (tells_dash (bits a.family) a.frame.now refl
    (receipt_setting (bits a.family) a.session a.table.now a.frame.now long a.made.now (sym c.prefix_length_ok.ensures ∙ c.if-not-prefix_length_ok.true)) refl)

pub returns-in-Err-Refused : goal.returns-in-Err-Refused
returns-in-Err-Refused c = let a = c.args in
    let i = c.in-Err-Refused in
    let got = rw i.field-0-is at (rw i.is at c.receive_placed.ensures) in
    rw (c.dashed-in-Err-Refused.ensures, i.field-0-is)
    (receipt-declined (bits a.family) a.session a.table.now a.frame.now c.octets-head.ensures.0 c.if-frame-head.false c.prefix_length_ok.ensures
    c.if-not-prefix_length_ok.false a.made.now c.receive_placed.new.out c.requires.1 got _)

pub returns-in-Err-Ineligible : goal.returns-in-Err-Ineligible
returns-in-Err-Ineligible c = let a = c.args in
    let i = c.in-Err-Ineligible in
    let got = rw i.field-0-is at (rw i.is at c.receive_placed.ensures) in
    rw (c.numbered.ensures, i.field-0-is)
    (receipt-ineligible (bits a.family) a.session a.table.now a.frame.now c.octets-head.ensures.0 c.if-frame-head.false c.prefix_length_ok.ensures
    c.if-not-prefix_length_ok.false a.made.now c.receive_placed.new.out c.requires.1 got _)

pub words-prefix-requires : goal.words-prefix-requires
words-prefix-requires c = let a = c.args in
    let octets = c.octets-head.ensures.0 in
    rw octets (lent-whole (whole_bits a.family) a.frame.now 2 (rw octets at c.if-frame-head.false))

pub overflow_add-placed : goal.overflow_add-placed
overflow_add-placed c = let a = c.args in
    let got = rw c.in-Ok.is at c.receive_placed.ensures in
    omega (
      arith,
      receipt-room (bits a.family) a.session a.table.now a.frame.now c.octets-head.ensures.0 c.if-frame-head.false c.prefix_length_ok.ensures
          c.if-not-prefix_length_ok.false a.made.now c.receive_placed.new.out c.requires.1 _ got,
    )

pub returns-in-Ok : goal.returns-in-Ok
returns-in-Ok c = let a = c.args in
    let got = rw c.in-Ok.is at c.receive_placed.ensures in
    let octets = c.octets-head.ensures.0 in
    rw c.numbered-in-Ok.ensures
    (receipt-taken (bits a.family) a.session a.table.now a.frame.now octets c.if-frame-head.false c.prefix_length_ok.ensures
    c.if-not-prefix_length_ok.false a.made.now c.receive_placed.new.out c.requires.1 c.in-Ok.placed got c.value.ensures
    (lent-read (whole_bits a.family) a.frame.now 2 (rw octets at c.if-frame-head.false) _ (rw octets at c.words-prefix.ensures))
    (c.scan_parts-found.ensures ∙ ap (state_in (bits a.family) (vrps (bits a.family) a.table.now) _ _) c.path_origin-origin.ensures) _)
