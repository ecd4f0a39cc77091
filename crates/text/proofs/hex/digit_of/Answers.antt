-- `digit_of` meets its contract: each range of bytes decides the definition's tests.
use mathlib.Core.Path.{◌≡◌, refl, ◌∙◌}
use Prim.Native.Nat.{ℕ, ◌-◌, ◌≤◌, ◌<◌}
use native.Mathlib.Omega.{arith}
use borrow.Author.Tests.{le-leb, lt-leb}
use Rattle.rules.specs.Text.{digit}
use Rattle.text.proofs.hex.digit_of.Goals as goal
use Rattle.text.proofs.hex.digit_of.Goals.{then-b-lt48, else-b-lt48, then-b-lt65, else-b-lt65, then-b-lt97, else-b-lt97, then-b-lt58, else-b-lt58}

-- The definition, range by range.
below-decimal : (b : ℕ) → b < 48 → 16 ≡ digit b
unfolding digit
below-decimal b h = rw (lt-leb 48 b h, lt-leb 65 b (omega arith), lt-leb 97 b (omega arith)) refl

decimal : (b : ℕ) → 48 ≤ b → b < 58 → b - 48 ≡ digit b
unfolding digit
decimal b l h = rw (le-leb 48 b l, le-leb b 57 (omega arith)) refl

below-upper : (b : ℕ) → 58 ≤ b → b < 65 → 16 ≡ digit b
unfolding digit
below-upper b l h = rw (le-leb 48 b (omega arith), lt-leb b 57 (omega arith), lt-leb 65 b h, lt-leb 97 b (omega arith)) refl

upper : (b : ℕ) → 65 ≤ b → b < 71 → b - 55 ≡ digit b
unfolding digit
upper b l h = rw (le-leb 48 b (omega arith), lt-leb b 57 (omega arith), le-leb 65 b l, le-leb b 70 (omega arith)) refl

below-lower : (b : ℕ) → 71 ≤ b → b < 97 → 16 ≡ digit b
unfolding digit
below-lower b l h = rw (le-leb 48 b (omega arith), lt-leb b 57 (omega arith), le-leb 65 b (omega arith), lt-leb b 70 (omega arith), lt-leb 97 b h) refl

lower : (b : ℕ) → 97 ≤ b → b < 103 → b - 87 ≡ digit b
unfolding digit
lower b l h = rw (le-leb 48 b (omega arith), lt-leb b 57 (omega arith), le-leb 65 b (omega arith), lt-leb b 70 (omega arith), le-leb 97 b l, le-leb b 102 (omega arith)) refl

above_lower : (b : ℕ) → 103 ≤ b → 16 ≡ digit b
unfolding digit
above_lower b l = rw (le-leb 48 b (omega arith), lt-leb b 57 (omega arith), le-leb 65 b (omega arith), lt-leb b 70 (omega arith), le-leb 97 b (omega arith), lt-leb b 102 (omega arith)) refl

-- A value below 16 is that of its range.
pub returns-then-value-lt16 : goal.returns-then-value-lt16
returns-then-value-lt16 c =
    let b = c.args.b in (
      elim c.if-b-lt58.branch [
        | then-b-lt58 w ↦
            elim c.if-b-lt48.branch [
              | then-b-lt48 v ↦ absurd (omega arith)
              | else-b-lt48 v ↦ w.value-is ∙ v.decimal-is ∙ decimal b v.if-b-lt48.false w.if-b-lt58.true
            ]
        | else-b-lt58 w ↦
            elim c.if-b-lt97.branch [
              | then-b-lt97 v ↦
                  elim c.if-b-lt65.branch [
                    | then-b-lt65 u ↦ absurd (omega arith)
                    | else-b-lt65 u ↦ w.value-is ∙ v.letter-is ∙ u.upper-is ∙ upper b u.if-b-lt65.false (omega arith)
                  ]
              | else-b-lt97 v ↦ w.value-is ∙ v.letter-is ∙ lower b v.if-b-lt97.false (omega arith)
            ]
      ],
      omega arith,
    )

pub returns-else-value-lt16 : goal.returns-else-value-lt16
returns-else-value-lt16 c =
    let b = c.args.b in (
      elim c.if-b-lt58.branch [
        | then-b-lt58 w ↦
            elim c.if-b-lt48.branch [
              | then-b-lt48 v ↦ below-decimal b v.if-b-lt48.true
              | else-b-lt48 v ↦ absurd (omega arith)
            ]
        | else-b-lt58 w ↦
            elim c.if-b-lt97.branch [
              | then-b-lt97 v ↦
                  elim c.if-b-lt65.branch [
                    | then-b-lt65 u ↦ below-upper b w.if-b-lt58.false u.if-b-lt65.true
                    | else-b-lt65 u ↦ below-lower b (omega arith) v.if-b-lt97.true
                  ]
              | else-b-lt97 v ↦ above_lower b (omega arith)
            ]
      ],
      omega arith,
    )
