-- `origin_state` meets its contract: 5, 6, 9, 3, and then the state by the block's path.
use mathlib.Core.Path.{◌≡◌, sym, ap, ◌∙◌}
use mathlib.Core.Bool.{true, ◌&&◌}
use Rattle.std.proofs.lemmas.Result.{err_from_is_err_and}
use Rattle.rules.specs.Answers.{told}
use Rattle.rules.specs.Settings.{prefix_length_ok, as_ok}
use Rattle.rules.specs.Origin.{prefix_in, vrps, state_in}
use Rattle.vrps.specs.Widths.{bits}
use Rattle.origin.proofs.Answering.{Admitted, origin_setting, origin-long, origin-table, origin_admitted, admitted_good, origin-fault, origin-clean}
use Rattle.origin.proofs.origin_state.Goals as goal

pub returns-then-not-route_ok : goal.returns-then-not-route_ok
unfolding told
returns-then-not-route_ok c = let a = c.args in
    origin_setting (bits a.family) a.len _ a.own a.table.now a.block.now (sym c.route_ok.ensures ∙ c.if-not-route_ok.true)

pub returns-then-block-gt-BLOCK_MAX : goal.returns-then-block-gt-BLOCK_MAX
unfolding told
returns-then-block-gt-BLOCK_MAX c =
    let settled : prefix_length_ok (bits c.args.family) c.args.len && as_ok c.args.own ≡ true = sym c.route_ok.ensures ∙ c.if-not-route_ok.false in
    let a = c.args in
    origin-long (bits a.family) a.len _ a.own a.table.now a.block.now settled c.if-block-gt-BLOCK_MAX.true

pub returns-in_err-check_table : goal.returns-in_err-check_table
unfolding told
returns-in_err-check_table c =
    let settled : prefix_length_ok (bits c.args.family) c.args.len && as_ok c.args.own ≡ true = sym c.route_ok.ensures ∙ c.if-not-route_ok.false in
    let a = c.args in
    let p = err_from_is_err_and c.from_residual.result c.from_residual.ensures.1 in
    rw (p.1, p.2) (origin-table (bits a.family) a.len _ a.own a.table.now a.block.now settled c.if-block-gt-BLOCK_MAX.false (sym (ap told c.in_err-check_table.was) ∙ c.check_table.ensures))

pub returns-in_err-layout : goal.returns-in_err-layout
unfolding told
returns-in_err-layout c =
    let settled : prefix_length_ok (bits c.args.family) c.args.len && as_ok c.args.own ≡ true = sym c.route_ok.ensures ∙ c.if-not-route_ok.false in
    let a = c.args in
    let admitted : Admitted (bits a.family) a.len (prefix_in (bits a.family) a.prefix) a.own a.table.now a.block.now =
    origin_admitted _ _ _ _ _ _ settled c.if-block-gt-BLOCK_MAX.false (sym (ap told c.in_ok-check_table.was) ∙ c.check_table.ensures) in
    let p = err_from_is_err_and c.from_residual-in_err-layout.result c.from_residual-in_err-layout.ensures.1 in
    rw (p.1, p.2) (origin-fault admitted c.read.ensures c.in_err-layout.was)

pub scan-requires : goal.scan-requires
unfolding told
scan-requires c =
    let settled : prefix_length_ok (bits c.args.family) c.args.len && as_ok c.args.own ≡ true = sym c.route_ok.ensures ∙ c.if-not-route_ok.false in
    let a = c.args in
    let admitted : Admitted (bits a.family) a.len (prefix_in (bits a.family) a.prefix) a.own a.table.now a.block.now =
    origin_admitted _ _ _ _ _ _ settled c.if-block-gt-BLOCK_MAX.false (sym (ap told c.in_ok-check_table.was) ∙ c.check_table.ensures) in
    admitted_good admitted

pub returns : goal.returns
unfolding told
returns c =
    let settled : prefix_length_ok (bits c.args.family) c.args.len && as_ok c.args.own ≡ true = sym c.route_ok.ensures ∙ c.if-not-route_ok.false in
    let a = c.args in
    let admitted : Admitted (bits a.family) a.len (prefix_in (bits a.family) a.prefix) a.own a.table.now a.block.now =
    origin_admitted _ _ _ _ _ _ settled c.if-block-gt-BLOCK_MAX.false (sym (ap told c.in_ok-check_table.was) ∙ c.check_table.ensures) in
    let w = bits a.family in
    origin-clean admitted c.read.ensures c.in_ok-layout.was c.value-path.ensures
    (c.scan.ensures ∙ ap (state_in w (vrps w a.table.now) (prefix_in w a.prefix) a.len) c.path_origin-origin.ensures)
