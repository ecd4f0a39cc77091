-- `put_field` meets its contract.
use mathlib.Core.Path.{refl}
use native.Mathlib.Omega.{arith}
use Rattle.rules.specs.Desk.{shown_number}
use Rattle.frames.specs.Replying.{shown_field}
use Rattle.text.proofs.Decimals.{decimal-length}
use Rattle.octets.proofs.Writing.{stored-none, stored_then}
use Rattle.desk_lines.proofs.lines.put_field.Goals as goal

pub put-requires : goal.put-requires
put-requires c = omega (arith, c.requires)

pub put_byte-w-requires : goal.put_byte-w-requires
put_byte-w-requires c = omega (arith, c.requires)

pub put_decimal-requires : goal.put_decimal-requires
put_decimal-requires c = omega (arith, c.requires, c.put_byte-w.auto.out, c.put_byte-w.ensures.next)

pub returns-in-Absent : goal.returns-in-Absent
unfolding shown_field
returns-in-Absent c = (stored-none _ _ (rw c.in-Absent.is refl), omega arith)

pub returns-in-Dash : goal.returns-in-Dash
unfolding shown_field shown_number
returns-in-Dash c = (rw c.in-Dash.is c.put.ensures, omega (arith, c.put.ensures.next))

pub returns-in-Number : goal.returns-in-Number
unfolding shown_field shown_number
returns-in-Number c = (
  rw c.in-Number.is (stored_then (omega (arith, c.requires)) c.put_byte-w.ensures c.put_decimal.ensures),
  omega (arith, c.put_byte-w.ensures.next, c.put_decimal.ensures.next, decimal-length c.in-Number.n (omega arith)),
)
