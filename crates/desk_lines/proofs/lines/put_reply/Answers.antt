-- `put_reply` meets its contract.
use Prim.Native.Nat.{ℕ, ◌+◌, ◌≤◌}
use mathlib.Core.Path.{sym, subst}
use native.Mathlib.Omega.{arith}
use lib.Seq.{length-take-le}
use Rattle.rules.specs.Answers.{answer_number}
use Rattle.rules.specs.Text.{decimal, decimal_up_to}
use Rattle.rules.specs.Desk.{shown_result}
use Rattle.std.specs.Prelude.{Result, Ok}
use Rattle.rules.specs.declared.Refusal.{Refusal}
use Rattle.frames.specs.Replying.{replied, Within}
use Rattle.text.proofs.Decimals.{decimal-length}
use Rattle.octets.proofs.Writing.{stored_then}
use Rattle.desk_lines.proofs.lines.put_reply.Goals as goal

pub put-requires : goal.put-requires
put-requires c =
    let number-within : c.put_decimal-w.result ≤ c.args.at + 20 = omega (arith, c.put_decimal-w.ensures.next, decimal-length c.refusal_number.result (omega arith)) in
    omega (arith, c.requires.1, c.put_decimal-w.auto.out, number-within)

pub slice_bounds-put_result-end : goal.slice_bounds-put_result-end
slice_bounds-put_result-end c =
    let result-within : Within c.args.made.now (Ok c.in-Ok.n) = subst (λ (w : Result ℕ Refusal). Within c.args.made.now w) c.in-Ok.is c.requires.0 in
    sym (length-take-le _ c.args.made.now result-within.0)

pub put_result-requires : goal.put_result-requires
put_result-requires c =
    let result-within : Within c.args.made.now (Ok c.in-Ok.n) = subst (λ (w : Result ℕ Refusal). Within c.args.made.now w) c.in-Ok.is c.requires.0 in
    (omega (arith, length-take-le _ c.args.made.now result-within.0, result-within.1), omega (arith, c.requires.1, c.put-w.auto.out, c.put-w.ensures.next))

pub returns-in-Err : goal.returns-in-Err
unfolding replied answer_number shown_result
returns-in-Err c =
    let number-within : c.put_decimal-w.result ≤ c.args.at + 20 = omega (arith, c.put_decimal-w.ensures.next, decimal-length c.refusal_number.result (omega arith)) in (
      rw (c.in-Err.is, ← c.refusal_number.ensures) (stored_then (omega (arith, c.requires.1)) c.put_decimal-w.ensures c.put.ensures),
      omega (arith, c.put.ensures.next, number-within),
    )

pub returns-in-Ok : goal.returns-in-Ok
unfolding replied answer_number shown_result decimal decimal_up_to
returns-in-Ok c = (
  rw c.in-Ok.is (stored_then (omega (arith, c.requires.1)) c.put-w.ensures c.put_result.ensures.0),
  omega (arith, c.put-w.ensures.next, c.put_result.ensures.1),
)
