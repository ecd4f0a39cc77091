-- `open_session` meets its contract: each way out by its law, in the order of answers.
use native.Mathlib.Omega.{arith}
use mathlib.Core.Path.{sym, ◌∙◌, ap}
use Rattle.rules.specs.Answers.{done, told}
use Rattle.opening.proofs.Opened.{open_setting, open_length, open_malformed, open_rejected, open_done}
use Rattle.opening.proofs.open_session.Goals as goal

pub returns-then-not-opening_ok : goal.returns-then-not-opening_ok
unfolding told
returns-then-not-opening_ok c = open_setting c.args.local_role c.args.strict c.args.parameters.now (sym c.opening_ok.ensures ∙ c.if-not-opening_ok.true)

pub returns-then-parameters-gt-PARAMETERS_MAX : goal.returns-then-parameters-gt-PARAMETERS_MAX
unfolding told
returns-then-parameters-gt-PARAMETERS_MAX c = open_length c.args.local_role c.args.strict c.args.parameters.now (sym c.opening_ok.ensures ∙ c.if-not-opening_ok.false) (omega (arith, c.if-parameters-gt-PARAMETERS_MAX.true))

pub returns-in_default : goal.returns-in_default
unfolding told
returns-in_default c = open_malformed c.args.local_role c.args.strict c.args.parameters.now (sym c.opening_ok.ensures ∙ c.if-not-opening_ok.false) (omega (arith, c.if-parameters-gt-PARAMETERS_MAX.false)) c.read_parameters.ensures c.in_default.not-Some

pub returns-then-disagrees : goal.returns-then-disagrees
unfolding told
returns-then-disagrees c = open_rejected c.args.local_role c.args.strict c.args.parameters.now (sym c.opening_ok.ensures ∙ c.if-not-opening_ok.false) (omega (arith, c.if-parameters-gt-PARAMETERS_MAX.false)) c.read_parameters.ensures c.in-Some.is c.disagrees.ensures c.if-disagrees.true

pub returns : goal.returns
unfolding told
returns c = ap done c.remote_role.ensures ∙ open_done c.args.local_role c.args.strict c.args.parameters.now (sym c.opening_ok.ensures ∙ c.if-not-opening_ok.false) (omega (arith, c.if-parameters-gt-PARAMETERS_MAX.false)) c.read_parameters.ensures c.in-Some.is c.disagrees.ensures c.if-disagrees.false
