-- Lines: bytes without a line feed in front of more input, what is held of a line, and what one cut takes.
use Prim.Native.Nat.{ℕ, zero, suc, ◌+◌, ◌-◌, ◌≤◌, ◌<◌}
use mathlib.Core.Path.{◌≡◌, refl, sym, ap, ◌∙◌}
use mathlib.Core.Bool.{true, false, true≢false, false≢true}
use mathlib.Core.List.{List, [], ◌∷◌, ◌++◌, append-nil}
use native.Mathlib.Numerals.{add-one}
use native.Mathlib.Omega.{arith}
use borrow.Author.Tests.{ne_eqb}
use lib.ListN.{length, take, drop, get_or, length-append}
use lib.Seq.{take_all, take-suc, take-append-add, length-take-le}
use Rattle.rules.specs.Text.{in_first_line, lines, line_feed}
use Rattle.octets.specs.Buffer.{Stored}
use Rattle.octets.proofs.Writing.{stored-front}
use Rattle.input_lines.specs.Lines.{held_max, NoFeed, LineEnd, Holds, Took}

-- ---- No line feed

pub free-append : (p q : List ℕ) → NoFeed p → NoFeed q → NoFeed (p ++ q)
free-append [] q f g = g
free-append (b ∷ p) q f g = (f.0, free-append p q f.1 g)

pub free-take : (n : ℕ) (p : List ℕ) → NoFeed p → NoFeed (take n p)
free-take zero p f = tt
free-take (suc n) [] f = tt
free-take (suc n) (b ∷ p) f = (f.0, free-take n p f.1)

-- One byte more.
pub free_more : (s : List ℕ) (i : ℕ) → i < length s → NoFeed (take i s) → (get_or s i 0 ≡ line_feed → ⊥) → NoFeed (take (i + 1) s)
free_more s i h f n = rw (add-one i, take-suc s i 0 h) (free-append (take i s) (get_or s i 0 ∷ []) f (n, tt))

-- ---- Lines of the input

first_line : (b : ℕ) (ls : List (List ℕ)) → in_first_line b ls ≡ (b ∷ get_or ls 0 []) ∷ drop 1 ls
unfolding in_first_line
first_line b [] = refl
first_line b (l ∷ ls) = refl

-- Bytes without a line feed go in front of the first line of what follows, which may be none.
pub lines-front : (b : ℕ) (p s : List ℕ) → NoFeed (b ∷ p) → lines ((b ∷ p) ++ s) ≡ ((b ∷ p) ++ get_or (lines s) 0 []) ∷ drop 1 (lines s)
unfolding lines in_first_line
lines-front b [] s f = rw (ne_eqb b line_feed f.0) (first_line b (lines s))
lines-front b (c ∷ p) s f = rw (ne_eqb b line_feed f.0, lines-front c p s f.1) refl

-- At a line feed the line is whole.
pub lines_feed : (p s : List ℕ) → NoFeed p → lines (p ++ (line_feed ∷ s)) ≡ p ∷ lines s
unfolding lines
lines_feed [] s f = refl
lines_feed (b ∷ p) s f = lines-front b p (line_feed ∷ s) f ∙ rw (append-nil p) refl

-- ---- Bytes held behind those held before

module _ {line : List ℕ} {held : ℕ} (s : List ℕ) (z : length line ≡ held_max) (h : held ≤ held_max) {r : ℕ} {line' : List ℕ} where
  -- All of them fit.
  pub held_all : held + length s ≤ held_max → Stored line held s r line' → (take r line' ≡ take held_max (take held line ++ s)) × (r ≤ held_max)
  held_all f S = (
    stored-front (omega arith) S
        ∙ sym (take_all held_max (take held line ++ s) (omega (arith, length-append (take held line) s, length-take-le held line (omega arith)))),
    omega (arith, S.next),
  )

  -- As many as fit.
  pub held-part : held_max - held ≤ length s → Stored line held (take (held_max - held) s) r line'
      → (take r line' ≡ take held_max (take held line ++ s)) × (r ≤ held_max)
  held-part f S =
      let e : held_max ≡ length (take held line) + (held_max - held) = omega (arith, length-take-le held line (omega arith)) in (
        stored-front (omega arith) S ∙ sym (ap (λ (n : ℕ). take n (take held line ++ s)) e ∙ take-append-add (take held line) s (held_max - held)),
        omega (arith, S.next, length-take-le (held_max - held) s f),
      )

-- Nothing is held.
pub holds-none : {line : List ℕ} → length line ≡ held_max → Holds line 0
holds-none z = record { size = z; within = omega arith; free = tt }

-- ---- A cut

module _ {line piece : List ℕ} {held n : ℕ} (o : Holds line held) (e : LineEnd piece n) {r : ℕ} {line' : List ℕ} (z : length line' ≡ held_max)
    (h : (take r line' ≡ take held_max (take held line ++ take n piece)) × (r ≤ held_max)) where
  now_holds : Holds line' r
  now_holds =
      record { size = z; within = h.1; free = rw h.0 (free-take held_max (take held line ++ take n piece) (free-append (take held line) (take n piece) o.free e.free)) }

  -- The piece has no line feed.
  pub took_all : n ≡ length piece → Took line held piece (record { taken = n; held = r; ended = false }) line'
  took_all q =
      record {
        more = take n piece;
        free = e.free;
        is = h.0;
        holds = now_holds;
        within = e.within;
        some = λ (p : 0 < length piece). omega arith;
        ended = λ f. absurd (false≢true f);
        all = λ f. (refl, q);
      }

  -- It has one.
  pub took_line : (n ≡ length piece → ⊥) → Took line held piece (record { taken = n + 1; held = r; ended = true }) line'
  took_line q =
      let l : n < length piece = omega (arith, e.within, q) in
      record {
        more = take n piece;
        free = e.free;
        is = h.0;
        holds = now_holds;
        within = omega arith;
        some = λ f. omega arith;
        ended = λ f. rw (add-one n, take-suc piece n 0 l, e.ended l) refl;
        all = λ f. absurd (true≢false f);
      }
