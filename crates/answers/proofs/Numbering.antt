-- The numbers of an answer are those of its equal.
use Prim.Native.Nat.{ℕ}
use mathlib.Core.Path.{◌≡◌}
use mathlib.Core.List.{List}
use mathlib.Core.Option.{Option, get_or}
use Rattle.rules.specs.Answers.{Answer, answer_number, beside_number}
use Rattle.rules.specs.Changes.{thrown_told}
use Rattle.rules.specs.Choice.{Choice, index_told, left_told}

pub two-numbers : (y : Answer ℕ) {x : Answer ℕ} {r beside : ℕ} → x ≡ y
    → (r ≡ answer_number x) × (beside ≡ beside_number x) → (r ≡ answer_number y) × (beside ≡ beside_number y)
two-numbers y e p = rw (← e) p

-- The number of tags thrown out goes by the answer's.
pub thrown-number : (b : List ℕ) {k r thrown : ℕ} {told : Option ℕ} → r ≡ k → told ≡ thrown_told k b → thrown ≡ get_or told 0
    → thrown ≡ get_or (thrown_told r b) 0
thrown-number b e q p = rw (e, ← q) p

-- Of choosing's answer there are three.
pub three-numbers : (y : Answer Choice) {x : Answer Choice} {r beside left : ℕ} → x ≡ y
    → (r ≡ answer_number x) × (beside ≡ beside_number (index_told x)) × (left ≡ left_told x)
    → (r ≡ answer_number y) × (beside ≡ beside_number (index_told y)) × (left ≡ left_told y)
three-numbers y e p = rw (← e) p
