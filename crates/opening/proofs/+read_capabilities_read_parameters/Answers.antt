-- The two readers, by one another's contracts for fewer bytes: what is left to read falls at each call.
use Prim.Native.Nat.{◌+◌}
use mathlib.Core.Path.{◌∙◌}
use native.Mathlib.Omega.{arith}
use Rattle.octets.proofs.Slices.{tail_is}
use Rattle.opening.proofs.Opening.{parameters_end, parameters_over, parameters_type, parameters_step, capabilities-end, capabilities-over, capabilities-other, capabilities-long, capabilities-role}
use Rattle.opening.proofs.+read_capabilities_read_parameters.Goals as goal

pub read_capabilities-returns-then-c-eq0 : goal.read_capabilities-returns-then-c-eq0
read_capabilities-returns-then-c-eq0 t c =
    let a = c.args in
    c.read_parameters.ensures ∙ capabilities-end a.c.now a.after.now a.seen c.if-c-eq0.true

pub read_capabilities-returns-then-c-lt2 : goal.read_capabilities-returns-then-c-lt2
read_capabilities-returns-then-c-lt2 t c =
    let a = c.args in
    capabilities-over a.c.now a.after.now a.seen (omega arith) (omega (arith, c.if-c-lt2.true))

pub read_capabilities-returns-then-c-n : goal.read_capabilities-returns-then-c-n
read_capabilities-returns-then-c-n t c =
    let a = c.args in
    capabilities-over a.c.now a.after.now a.seen (omega arith) (omega (arith, c.if-c-n.true, c.wide-n.ensures.0))

pub read_capabilities-returns-then-c-ne-ROLE : goal.read_capabilities-returns-then-c-ne-ROLE
read_capabilities-returns-then-c-ne-ROLE t c =
    let a = c.args in
    rw (tail_is a.c.now (2 + c.wide-n.result)) at c.read_capabilities.ensures
    ∙ capabilities-other a.c.now a.after.now a.seen c.wide-n.ensures.0 (omega arith) c.if-c-ne-ROLE.true

pub read_capabilities-returns-then-n-ne1 : goal.read_capabilities-returns-then-n-ne1
read_capabilities-returns-then-n-ne1 t c =
    let a = c.args in
    capabilities-long a.c.now a.after.now a.seen c.wide-n.ensures.0 (omega arith) c.if-c-ne-ROLE.false (λ z. omega (arith, z, c.if-n-ne1.true))

pub read_capabilities-returns : goal.read_capabilities-returns
read_capabilities-returns t c =
    let a = c.args in
    rw (tail_is a.c.now 3, c.note.ensures) at c.read_capabilities-2.ensures
    ∙ capabilities-role a.c.now a.after.now a.seen c.wide-n.ensures.0 (omega arith) c.if-c-ne-ROLE.false (omega (arith, c.if-n-ne1.false))

pub read_parameters-returns-then-s-eq0 : goal.read_parameters-returns-then-s-eq0
read_parameters-returns-then-s-eq0 t c = parameters_end c.args.s.now c.args.seen c.if-s-eq0.true

pub read_parameters-returns-then-s-lt2 : goal.read_parameters-returns-then-s-lt2
read_parameters-returns-then-s-lt2 t c = parameters_over c.args.s.now c.args.seen (omega arith) (omega (arith, c.if-s-lt2.true))

pub read_parameters-returns-then-s-n : goal.read_parameters-returns-then-s-n
read_parameters-returns-then-s-n t c =
    parameters_over c.args.s.now c.args.seen (omega arith) (omega (arith, c.if-s-n.true, c.wide-n.ensures.0))

pub read_parameters-returns-then-s-ne-CAPABILITIES : goal.read_parameters-returns-then-s-ne-CAPABILITIES
read_parameters-returns-then-s-ne-CAPABILITIES t c =
    parameters_type c.args.s.now c.args.seen c.wide-n.ensures.0 (omega arith) c.if-s-ne-CAPABILITIES.true

pub read_parameters-returns : goal.read_parameters-returns
read_parameters-returns t c =
    parameters_step c.args.s.now c.args.seen c.wide-n.ensures.0 (omega arith) c.if-s-ne-CAPABILITIES.false c.read_capabilities.ensures
