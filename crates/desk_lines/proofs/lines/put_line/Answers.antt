-- `put_line` meets its contract.
use Prim.Native.Nat.{◌+◌, ◌≤◌}
use native.Mathlib.Omega.{arith}
use lib.ListN.{length}
use Rattle.frames.specs.Replying.{replied, shown_field}
use Rattle.text.proofs.Decimals.{decimal-length}
use Rattle.desk_lines.proofs.Saying.{line_parts}
use Rattle.octets.proofs.Writing.{stored_then}
use Rattle.desk_lines.proofs.lines.put_line.Goals as goal

pub put_byte-w-requires : goal.put_byte-w-requires
put_byte-w-requires c =
    let number-within : c.put_decimal-v.result ≤ c.args.at + 20 = omega (arith, c.put_decimal-v.ensures.next, decimal-length c.args.number (omega (arith, c.ranges))) in
    omega (arith, c.requires.1, c.put_decimal-v.auto.out, number-within)

pub put_reply-x-requires : goal.put_reply-x-requires
put_reply-x-requires c =
    let number-within : c.put_decimal-v.result ≤ c.args.at + 20 = omega (arith, c.put_decimal-v.ensures.next, decimal-length c.args.number (omega (arith, c.ranges))) in
    (c.requires.0, omega (arith, c.requires.1, c.put_decimal-v.auto.out, c.put_byte-w.auto.out, c.put_byte-w.ensures.next, number-within))

pub put_field-y-requires : goal.put_field-y-requires
put_field-y-requires c =
    let number-within : c.put_decimal-v.result ≤ c.args.at + 20 = omega (arith, c.put_decimal-v.ensures.next, decimal-length c.args.number (omega (arith, c.ranges))) in
    omega (arith, c.requires.1, c.put_decimal-v.auto.out, c.put_byte-w.auto.out, c.put_reply-x.auto.out, c.put_byte-w.ensures.next, c.put_reply-x.ensures.1, number-within)

pub put_byte-requires : goal.put_byte-requires
put_byte-requires c =
    let number-within : c.put_decimal-v.result ≤ c.args.at + 20 = omega (arith, c.put_decimal-v.ensures.next, decimal-length c.args.number (omega (arith, c.ranges))) in
    omega (arith, c.requires.1, c.put_decimal-v.auto.out, c.put_byte-w.auto.out, c.put_reply-x.auto.out, c.put_field-y.auto.out, c.put_byte-w.ensures.next, c.put_reply-x.ensures.1, c.put_field-y.ensures.1, number-within)

pub returns : goal.returns
returns c =
    let number-within : c.put_decimal-v.result ≤ c.args.at + 20 = omega (arith, c.put_decimal-v.ensures.next, decimal-length c.args.number (omega (arith, c.ranges))) in
    let h : c.args.at ≤ length c.args.out.now = omega (arith, c.requires.1) in (
      rw (← line_parts c.args.number (replied c.args.made.now c.args.outcome.reply) (shown_field c.args.outcome.field))
          (stored_then h (stored_then h (stored_then h (stored_then h c.put_decimal-v.ensures c.put_byte-w.ensures) c.put_reply-x.ensures.0) c.put_field-y.ensures.0) c.put_byte.ensures),
      omega (arith, number-within, c.put_byte-w.ensures.next, c.put_reply-x.ensures.1, c.put_field-y.ensures.1, c.put_byte.ensures.next),
    )
