-- `read_line` meets its contract.
use Rattle.text.proofs.Spelling.{unreadable-empty, unreadable-long, unreadable-odd, read_not, read_digits}
use Rattle.text.proofs.hex.read_line.Goals as goal

pub returns-then-line-lt1 : goal.returns-then-line-lt1
returns-then-line-lt1 c = let a = c.args in
    read_not a.line.now a.raw.now (unreadable-empty a.line.now c.if-line-lt1.true)

pub returns-then-line-gt-DIGITS_MAX : goal.returns-then-line-gt-DIGITS_MAX
returns-then-line-gt-DIGITS_MAX c = let a = c.args in
    read_not a.line.now a.raw.now (unreadable-long a.line.now c.if-line-gt-DIGITS_MAX.true)

pub returns-then-line-ne0 : goal.returns-then-line-ne0
returns-then-line-ne0 c = let a = c.args in
    read_not a.line.now a.raw.now (unreadable-odd a.line.now c.if-line-lt1.false c.if-line-gt-DIGITS_MAX.false c.if-line-ne0.true)

pub returns : goal.returns
returns c = let d = c.decode.ensures in
    let a = c.args in
    read_digits a.line.now c.if-line-lt1.false c.if-line-gt-DIGITS_MAX.false a.raw.now c.if-line-ne0.false d.0 d.1
