-- `build` meets its contract: the table's refusals, no room, or the index.
use mathlib.Core.Path.{sym, ap, ◌∙◌}
use native.Mathlib.Omega.{arith}
use Rattle.std.proofs.lemmas.Result.{err_from_is_err_and}
use lib.ListN.{replicate}
use Rattle.rules.specs.Answers.{told}
use Rattle.vrps.proofs.Words.{whole_bits}
use Rattle.build.proofs.Answering.{build_refused, build_taken, build_full, build_done}
use Rattle.build.proofs.build.Goals as goal

pub returns-in_err-check_table : goal.returns-in_err-check_table
unfolding told
returns-in_err-check_table c = let p = err_from_is_err_and c.from_residual.result c.from_residual.ensures.1 in
    rw (p.1, p.2) (build_refused _ _ _ (sym (ap told c.in_err-check_table.was) ∙ c.check_table.ensures))

pub fill-requires : goal.fill-requires
unfolding told
fill-requires c = build_taken _ _ c.args.memory.now (sym (ap told c.in_ok-check_table.was) ∙ c.check_table.ensures)

pub returns-in_default : goal.returns-in_default
unfolding told
returns-in_default c = build_full _ _ _ (sym (ap told c.in_ok-check_table.was) ∙ c.check_table.ensures) c.fill.ensures (whole_bits c.args.family)
    (λ i. omega (arith, c.shared_slice_known-1.given i)) c.in_default.is (c.fill-in_default.ensures.after (λ y e. e) ∙ ap (λ n. replicate n 0) c.fill.auto.memory)

pub returns : goal.returns
unfolding told
returns c = build_done _ _ _ (sym (ap told c.in_ok-check_table.was) ∙ c.check_table.ensures) c.fill.ensures c.in-Some.is c.fill.auto.memory
