-- At an RS the byte is below 1, elsewhere at most 1.
use mathlib.Core.Path.{◌≡◌, refl}
use mathlib.Core.Bool.{true, not, ◌&&◌, and-true, and-false}
use Prim.Native.Nat.{ℕ, zero, suc}
use native.Mathlib.Omega.{arith}
use lib.Dec.{leb, ltb, eqb}
use borrow.Author.Tests.{eq-eqb, ne_eqb, lt-leb, le-ltb}
use Rattle.rules.specs.Settings.{rs, one_administration, administration_ok}
use Rattle.settings.proofs.ranges.administration_ok.Goals as goal

below-1 : (byte : ℕ) → ltb byte 1 ≡ leb byte 1 && not (eqb byte 1 && true)
below-1 zero = refl
below-1 (suc zero) = refl
below-1 (suc (suc n)) = rw (le-ltb (suc (suc n)) 1 (omega arith), lt-leb (suc (suc n)) 1 (omega arith)) refl

pub returns-then-session-eq-RS : goal.returns-then-session-eq-RS
unfolding administration_ok one_administration
returns-then-session-eq-RS c = let s = c.args.session in
    rw (eq-eqb s.local_role rs c.if-session-eq-RS.true) (below-1 s.one_administration)

pub returns : goal.returns
unfolding administration_ok one_administration
returns c = let s = c.args.session in
    rw (ne_eqb s.local_role rs c.if-session-eq-RS.false, and-false (eqb s.one_administration 1), and-true (leb s.one_administration 1)) refl
