-- `session_frame` meets its contract.
use mathlib.Core.Path.{sym, ap, ◌∙◌}
use lib.ListN.{get_or}
use Rattle.std.proofs.lemmas.Result.{err_from_is_err_and}
use Rattle.rules.specs.Answers.{told}
use Rattle.rules.specs.Settings.{session_ok}
use Rattle.rules.specs.Roles.{open_session}
use Rattle.rules.specs.Desk.{session_head}
use Rattle.octets.proofs.Slices.{tail_is}
use Rattle.frames.proofs.Framing.{session-short, session_setting, session-refused, session-opened}
use Rattle.frames.proofs.kinds.session_frame.Goals as goal

pub returns-then-frame-lt-SESSION_MIN : goal.returns-then-frame-lt-SESSION_MIN
returns-then-frame-lt-SESSION_MIN c = let a = c.args in
    session-short a.frame.now a.made.now c.if-frame-lt-SESSION_MIN.true

pub returns-then-not-session_ok : goal.returns-then-not-session_ok
returns-then-not-session_ok c = let a = c.args in
    session_setting a.frame.now a.made.now c.if-frame-lt-SESSION_MIN.false (sym (ap session_ok c.session_in.ensures) ∙ sym c.session_ok.ensures ∙ c.if-not-session_ok.true)

pub returns-in_err-role : goal.returns-in_err-role
unfolding told
returns-in_err-role c = let f = c.args.frame.now in
    let p = err_from_is_err_and c.from_residual.result c.from_residual.ensures.1 in
    rw (p.1, p.2)
    (session-refused f c.args.made.now c.if-frame-lt-SESSION_MIN.false (sym (ap session_ok c.session_in.ensures) ∙ sym c.session_ok.ensures ∙ c.if-not-session_ok.false)
    (c.in_err-role.ensures ∙ ap (open_session (get_or f 9 0) (get_or f 10 0)) (tail_is f session_head)))

pub returns : goal.returns
unfolding told
returns c = let f = c.args.frame.now in
    session-opened f c.args.made.now c.if-frame-lt-SESSION_MIN.false (sym (ap session_ok c.session_in.ensures) ∙ sym c.session_ok.ensures ∙ c.if-not-session_ok.false) c.requires
    (c.in_ok-role.ensures ∙ ap (open_session (get_or f 9 0) (get_or f 10 0)) (tail_is f session_head))
