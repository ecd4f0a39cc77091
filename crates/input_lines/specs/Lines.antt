-- Lines cut from pieces of input: what is held of one, and what one cut takes.
use Rattle.std.specs.Prelude.{ℕ, ◌+◌, ◌≤◌, ◌<◌, ◌≡◌, true, false, List, [], ◌∷◌, ◌++◌, length, take, get_or}
use Rattle.rules.specs.Text.{line_feed, digits_max}
use Rattle.input_lines.specs.declared.Cut.{Cut}

-- Of a line at most so many bytes are held: they tell that it is too long.
abbrev pub held_max : ℕ
held_max = digits_max + 1

-- No byte is a line feed.
abbrev pub NoFeed : List ℕ → Type 0
NoFeed [] = Unit {0}
NoFeed (b ∷ s) = (b ≡ line_feed → ⊥) × NoFeed s

-- The first line of s ends at r.
pub record LineEnd (s : List ℕ) (r : ℕ) : Type 0 where
  pub within : r ≤ length s
  pub free : NoFeed (take r s)
  pub ended : r < length s → get_or s r 0 ≡ line_feed

-- The first `held` bytes of `line` are those of a line that has begun, which no line feed has ended.
pub record Holds (line : List ℕ) (held : ℕ) : Type 0 where
  pub size : length line ≡ held_max
  pub within : held ≤ held_max
  pub free : NoFeed (take held line)

-- What cutting a piece promises: it takes the bytes of a line, `more`, and the line feed that ends it or else the whole piece, and
-- holds as many of the line's bytes as fit.
pub record Took (line : List ℕ) (held : ℕ) (piece : List ℕ) (r : Cut) (line' : List ℕ) : Type 0 where
  pub more : List ℕ
  pub free : NoFeed more
  pub is : take r.held line' ≡ take held_max (take held line ++ more)
  pub holds : Holds line' r.held
  pub within : r.taken ≤ length piece
  pub some : 0 < length piece → 0 < r.taken
  pub ended : r.ended ≡ true → take r.taken piece ≡ more ++ (line_feed ∷ [])
  pub all : r.ended ≡ false → (take r.taken piece ≡ more) × (r.taken ≡ length piece)
