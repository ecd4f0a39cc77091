-- `insert` meets its contract: one law of the answers for each way out.
use mathlib.Core.Path.{sym, ◌∙◌}
use native.Mathlib.Omega.{arith}
use Rattle.rules.specs.Answers.{told}
use Rattle.vrps.proofs.Words.{whole_bits}
use Rattle.index.proofs.Answering.{insert-length, insert-long, insert_bad, insert-put}
use Rattle.index.proofs.insert.Goals as goal

pub returns-then-added-record_size : goal.returns-then-added-record_size
unfolding told
returns-then-added-record_size c = insert-length _ _ _ _ _ (rw c.record_size.ensures.0 at c.if-added-record_size.true)

pub returns-then-records-ge-VRPS_MAX : goal.returns-then-records-ge-VRPS_MAX
unfolding told
returns-then-records-ge-VRPS_MAX c = insert-long _ _ _ _ _ (c.if-added-record_size.false ∙ c.record_size.ensures.0) c.if-records-ge-VRPS_MAX.true

pub bad_vrp-requires : goal.bad_vrp-requires
bad_vrp-requires c = c.if-added-record_size.false ∙ c.record_size.ensures.0

pub returns-then-bad_vrp : goal.returns-then-bad_vrp
unfolding told
returns-then-bad_vrp c = insert_bad _ _ _ _ _ (c.if-added-record_size.false ∙ c.record_size.ensures.0) (omega (arith, c.if-records-ge-VRPS_MAX.false)) (sym c.bad_vrp.ensures ∙ c.if-bad_vrp.true)

pub put-requires : goal.put-requires
put-requires c = (c.if-added-record_size.false ∙ c.record_size.ensures.0, sym c.bad_vrp.ensures ∙ c.if-bad_vrp.false)

pub returns : goal.returns
returns c = rw c.ok_or.ensures.value
    (insert-put _ _ _ _ _ (c.if-added-record_size.false ∙ c.record_size.ensures.0) (omega (arith, c.if-records-ge-VRPS_MAX.false)) (sym c.bad_vrp.ensures ∙ c.if-bad_vrp.false)
    c.put.ensures (whole_bits c.args.family) (λ i. omega (arith, c.shared_slice_known-1.given i)) c.put.auto.memory)
