-- `put_decimal` meets its contract, by its own for a tenth of the number: the number falls at each call.
use native.Mathlib.Omega.{arith}
use Rattle.octets.proofs.Writing.{stored_then}
use Rattle.text.proofs.Decimals.{decimal-one, decimal-more, decimal_tenth}
use Rattle.text.proofs.decimal.+put_decimal.Goals as goal

pub returns-then-n-lt10 : goal.returns-then-n-lt10
returns-then-n-lt10 t c = rw (decimal-one c.args.n c.if-n-lt10.true) c.put_byte.ensures

pub put_byte-requires-2 : goal.put_byte-requires-2
put_byte-requires-2 t c =
    omega (arith, c.requires, c.put_decimal-w.auto.out, c.put_decimal-w.ensures.next, decimal_tenth c.args.n (omega arith))

pub returns : goal.returns
returns t c =
    rw (decimal-more c.args.n c.if-n-lt10.false) (stored_then (omega (arith, c.requires)) c.put_decimal-w.ensures c.put_byte-2.ensures)
