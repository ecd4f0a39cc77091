-- `same_flags` meets its contract: no byte has no flags.
use mathlib.Core.Path.{refl}
use native.Mathlib.Omega.{arith}
use Rattle.rules.specs.Bytes.{is_empty}
use Rattle.rules.proofs.Lists.{nil_of_length, is_empty_not}
use Rattle.other_make.proofs.parts.same_flags.Goals as goal

pub returns-then-a-eq0 : goal.returns-then-a-eq0
unfolding is_empty
returns-then-a-eq0 c = rw (nil_of_length c.args.a.now c.if-a-eq0.true) refl

pub returns : goal.returns
returns c = let a = c.args in
    rw (is_empty_not a.a.now (omega (arith, c.if-a-eq0.false)), c.flags_apart.ensures, c.flags_apart-2.ensures) refl
