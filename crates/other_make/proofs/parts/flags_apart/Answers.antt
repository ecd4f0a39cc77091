-- `flags_apart` meets its contract: by the bit.
use mathlib.Core.Path.{◌≡◌, refl, sym, ◌∙◌}
use mathlib.Core.Bool.{true}
use Prim.Native.Nat.{ℕ, ◌≤◌, ◌/◌, ◌%◌}
use native.Mathlib.Omega.{arith}
use borrow.Author.Tests.{eqb-true}
use Rattle.rules.specs.Attributes.{long}
use Rattle.rules.specs.OtherMake.{flags_apart}
use Rattle.other_make.proofs.parts.flags_apart.Goals as goal

-- Flags with the bit are at least it.
long-least : (flags : ℕ) → long flags ≡ true → 16 ≤ flags
unfolding long
long-least flags e = omega (arith, eqb-true (flags / 16 % 2) 1 e)

pub overflow_sub-result : goal.overflow_sub-result
overflow_sub-result c = long-least c.args.flags (sym c.is_long.ensures ∙ c.if-is_long.true)

pub returns-then-is_long : goal.returns-then-is_long
unfolding flags_apart
returns-then-is_long c = let e : long c.args.flags ≡ true = sym c.is_long.ensures ∙ c.if-is_long.true in rw e refl

pub returns-else-is_long : goal.returns-else-is_long
unfolding flags_apart
returns-else-is_long c = rw (sym c.is_long.ensures ∙ c.if-is_long.false) refl
