-- `answer_frame` meets its contract, by the kind of the frame.
use mathlib.Core.Path.{refl, ◌∙◌}
use borrow.Author.Tests.{ne_eqb}
use Rattle.desk_memory.specs.declared.kinds.Ip.TheVariants.{V4, V6}
use Rattle.frames.proofs.Framing.{replies-refused}
use Rattle.desk_memory.specs.declared.kinds.Kind.TheVariants.{Receipt}
use Rattle.desk_memory.proofs.Tabling.{taken-records}
use Rattle.desk_memory.proofs.ByKind.{kept-table, frame-session, frame-vrp, frame-receipt, frame-sending, frame_no_receipt, frame_no_sending, frame_unknown}
use Rattle.desk_memory.proofs.Fields.{tells-receipt, tells-dashed, tells_plain, tells-vrp}
use Rattle.desk_memory.proofs.answer_frame.Goals as goal

pub returns-in_default : goal.returns-in_default
returns-in_default c = let a = c.args in
    let n = c.in_default.ensures in
    rw c.plain.ensures
    (tells_plain a.frame.now (ne_eqb _ _ (n (Receipt V4))) (ne_eqb _ _ (n (Receipt V6))) (replies-refused a.made.now (frame_unknown a.kept a.tables.now a.frame.now n)))

pub returns-in-Session : goal.returns-in-Session
returns-in-Session c = let a = c.args in
    let b = rw c.in-Session.is at c.in-Some.ensures in
    rw (c.plain-in-Session.ensures, frame-session a.kept a.tables.now a.frame.now b) (tells_plain a.frame.now (rw b refl) (rw b refl) c.session_frame.ensures)

pub receipt_frame-requires : goal.receipt_frame-requires
receipt_frame-requires c = (rw (c.family.ensures, c.table_of.ensures) (kept-table c.requires.1 V4).good, c.requires.2)

pub returns-in-V4 : goal.returns-in-V4
returns-in-V4 c = let a = c.args in
    let b = rw (c.in-Receipt.is, c.in-V4.is) at c.in-Some.ensures in
    rw (frame-receipt a.kept a.tables.now a.frame.now c.in-Some-session.is V4 b, ← c.table_of.ensures) (tells-receipt a.frame.now V4 b (rw c.family.ensures at c.receipt_frame.ensures))

pub returns-in-V6 : goal.returns-in-V6
returns-in-V6 c = let a = c.args in
    let b = rw (c.in-Receipt.is, c.in-V6.is) at c.in-Some.ensures in
    rw (frame-receipt a.kept a.tables.now a.frame.now c.in-Some-session.is V6 b, ← c.table_of-in-V6.ensures) (tells-receipt a.frame.now V6 b (rw c.family-in-V6.ensures at c.receipt_frame-in-V6.ensures))

pub returns-in-None : goal.returns-in-None
returns-in-None c = let a = c.args in
    let w = c.in-Receipt.ip in
    let b = rw c.in-Receipt.is at c.in-Some.ensures in
    rw c.without_session.ensures (tells-dashed a.frame.now w b (frame_no_receipt a.kept a.tables.now a.frame.now c.in-None.is w b))

pub returns-in-Some-session-2 : goal.returns-in-Some-session-2
returns-in-Some-session-2 c = let a = c.args in
    let b = rw c.in-Sending.is at c.in-Some.ensures in
    rw (c.plain-in-Some-session-2.ensures, frame-sending a.kept a.tables.now a.frame.now c.in-Some-session-2.is b) (tells_plain a.frame.now (rw b refl) (rw b refl) c.sending_frame.ensures)

pub returns-in-None-session : goal.returns-in-None-session
returns-in-None-session c = let a = c.args in
    let b = rw c.in-Sending.is at c.in-Some.ensures in
    rw (c.without_session-in-None-session.ensures, c.in-Sending.is)
    (tells_plain a.frame.now (rw b refl) (rw b refl) (replies-refused a.made.now (frame_no_sending a.kept a.tables.now a.frame.now c.in-None-session.is b)))

pub returns-in-Vrp : goal.returns-in-Vrp
returns-in-Vrp c = let a = c.args in
    let w = c.in-Vrp.ip in
    let b = rw c.in-Vrp.is at c.in-Some.ensures in
    rw (c.plain-in-Vrp.ensures, frame-vrp a.kept a.tables.now a.frame.now w b)
    (tells-vrp a.frame.now w b ((rw c.family-in-Vrp.ensures at c.vrp_frame.ensures) _ (c.used_of.ensures ∙ taken-records (kept-table c.requires.1 w))))
