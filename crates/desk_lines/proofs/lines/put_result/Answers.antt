-- `put_result` meets its contract.
use mathlib.Core.Path.{sym}
use native.Mathlib.Omega.{arith}
use borrow.Author.Tests.{eqb-true, eqb-false}
use Rattle.text.proofs.Spelling.{hex-length}
use Rattle.desk_lines.proofs.Saying.{shown-none, shown-some}
use Rattle.desk_lines.proofs.lines.put_result.Goals as goal

pub returns-then-is_empty : goal.returns-then-is_empty
returns-then-is_empty c = let a = c.args in
    let p = c.put_byte.ensures in
    (rw (shown-none a.res.now (eqb-true _ _ (sym c.if-is_empty.ensures))) p, omega (arith, p.next))

pub returns : goal.returns
returns c = let a = c.args in
    let p = c.put_hex.ensures in
    (rw (shown-some a.res.now (eqb-false _ _ (sym c.if-is_empty.ensures))) p, omega (arith, p.next, hex-length a.res.now, c.requires.0))
