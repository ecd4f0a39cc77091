-- A machine that is fed its input in pieces and answers each line once it has ended, whatever a line says and leaves: `say` and `next`
-- of the state before it, as in `said_from`.
use Rattle.std.specs.Prelude.{ℕ, ◌<◌, ◌≡◌, List, [], ◌∷◌, ◌++◌, length}
use Rattle.rules.specs.Text.{lines, said_from, digits_max}

-- Lines of more than 8,192 bytes are one: whatever they hold, they say the same and leave the same.
pub record Capped {S : Type 0} (say : S → List ℕ → List ℕ) (next : S → List ℕ → S) : Type 0 where
  pub alike : (s : S) (p q : List ℕ) → digits_max < length p → digits_max < length q → (say s p ≡ say s q) × (next s p ≡ next s q)

-- Feeding a piece: what it says and what the rest of the input will give are what all of it would. Before it the line `begun` is
-- held, and `begun'` after it.
pub record Feeds {S : Type 0} (say : S → List ℕ → List ℕ) (next : S → List ℕ → S) (s : S) (begun piece said : List ℕ) (s' : S) (begun' : List ℕ) : Type 0 where
  pub gives : (rest : List ℕ) → said_from say next s (lines (begun ++ (piece ++ rest))) ≡ said ++ said_from say next s' (lines (begun' ++ rest))

-- A run: pieces of any size are fed in turn, and at the end of the input what is left is said.
pub data Runs {S : Type 0} (say : S → List ℕ → List ℕ) (next : S → List ℕ → S) : S → List ℕ → List (List ℕ) → List ℕ → Type 0 where
  finished : (s : S) (begun : List ℕ) → Runs say next s begun [] (said_from say next s (lines (begun ++ [])))
  fed : (s : S) (begun piece said : List ℕ) (s' : S) (begun' : List ℕ) (pieces : List (List ℕ)) (last : List ℕ)
      → Feeds say next s begun piece said s' begun' → Runs say next s' begun' pieces last → Runs say next s begun (piece ∷ pieces) (said ++ last)
