-- Feeding pieces to a machine, whatever its lines say and leave: a line held, a line answered, the end of the input, one piece after
-- another, and the whole run.
use Prim.Native.Nat.{ℕ, ◌<◌}
use mathlib.Core.Path.{◌≡◌, refl, sym, ap, ◌∙◌}
use mathlib.Core.Bool.{Bool, true, false}
use mathlib.Core.List.{List, [], ◌∷◌, ◌++◌, append-nil, append_assoc, flatten}
use native.Mathlib.Omega.{arith}
use borrow.Author.Tests.{leb-true, leb-false}
use lib.Dec.{leb}
use lib.ListN.{length, take, get_or, length-append}
use lib.Seq.{take_all, length-take-le}
use Rattle.rules.specs.Text.{lines, said_from, line_feed, digits_max}
use Rattle.input_lines.specs.declared.Cut.{Cut}
use Rattle.input_lines.specs.Lines.{held_max, NoFeed, Holds, Took}
use Rattle.input_lines.specs.Feeding.{Capped, Feeds, Runs, finished, fed}
use Rattle.input_lines.proofs.Lining.{free-append, free-take, lines-front, lines_feed}

module _ {S : Type 0} {say : S → List ℕ → List ℕ} {next : S → List ℕ → S} where
  -- ---- One piece after another

  -- Nothing is fed.
  pub feeds-none : (s : S) (begun : List ℕ) → Feeds say next s begun [] [] s begun
  feeds-none s begun = record { gives = λ rest. refl }

  pub feeds_then : {s s' s'' : S} {b p x b' q y b'' : List ℕ} → Feeds say next s b p x s' b' → Feeds say next s' b' q y s'' b''
      → Feeds say next s b (p ++ q) (x ++ y) s'' b''
  feeds_then {p = p} {x} {q = q} {y} F G =
      record { gives = λ rest. rw (append_assoc p q rest) (F.gives (q ++ rest) ∙ ap (λ (l : List ℕ). x ++ l) (G.gives rest) ∙ sym (append_assoc x y _)) }

  -- However the input is cut into pieces, what a run says is what all its lines say.
  pub run_says : (s : S) (begun : List ℕ) (pieces : List (List ℕ)) (output : List ℕ) → Runs say next s begun pieces output
      → output ≡ said_from say next s (lines (begun ++ flatten pieces))
  unfolding flatten
  run_says _ _ _ _ (finished s begun) = refl
  run_says _ _ _ _ (fed s begun piece said s' begun' pieces last F R) =
      ap (λ (l : List ℕ). said ++ l) (run_says s' begun' pieces last R) ∙ sym (F.gives (flatten pieces))

  -- ---- The cap: of a line that has begun, its first 8,193 bytes stand for it

  module _ (C : Capped say next) where
    capped : (s : S) (p l : List ℕ) → (say s (p ++ l) ≡ say s (take held_max p ++ l)) × (next s (p ++ l) ≡ next s (take held_max p ++ l))
    capped s p l = go (leb (length p) held_max) refl
      where
        go : (x : Bool) → leb (length p) held_max ≡ x
            → (say s (p ++ l) ≡ say s (take held_max p ++ l)) × (next s (p ++ l) ≡ next s (take held_max p ++ l))
        go true e = rw (take_all held_max p (leb-true (length p) held_max e)) (refl, refl)
        go false e =
            C.alike s (p ++ l) (take held_max p ++ l)
            (omega (arith, length-append p l, leb-false (length p) held_max e))
            (omega (arith, length-append (take held_max p) l, length-take-le held_max p (omega (arith, leb-false (length p) held_max e))))

    pub held_stands : (s : S) (p rest : List ℕ) → NoFeed p → said_from say next s (lines (p ++ rest)) ≡ said_from say next s (lines (take held_max p ++ rest))
    unfolding said_from
    held_stands s [] rest f = refl
    held_stands s (b ∷ p) rest f =
        let a = capped s (b ∷ p) (get_or (lines rest) 0 []) in
        rw (lines-front b p rest f, lines-front b (take digits_max p) rest (f.0, free-take digits_max p f.1), a.0, a.1) refl

    feed_answers : (s : S) (p rest : List ℕ) → NoFeed p
        → said_from say next s (lines (p ++ (line_feed ∷ rest))) ≡ say s (take held_max p) ++ said_from say next (next s (take held_max p)) (lines rest)
    unfolding said_from
    feed_answers s p rest f =
        let a = rw (append-nil p, append-nil (take held_max p)) at (capped s p []) in
        rw (lines_feed p rest f, a.0, a.1) refl

    -- ---- A line that has begun, and what one cut of a piece makes of it

    module _ (s : S) {line piece line' : List ℕ} {held : ℕ} {r : Cut} (o : Holds line held) (t : Took line held piece r line') where
      all-free : NoFeed (take held line ++ t.more)
      all-free = free-append (take held line) t.more o.free t.free

      -- It has not ended: it is held.
      pub feeds-held : r.ended ≡ false → Feeds say next s (take held line) (take r.taken piece) [] s (take r.held line')
      feeds-held e =
          record { gives = λ rest. rw ((t.all e).0, ← append_assoc (take held line) t.more rest, t.is) (held_stands s (take held line ++ t.more) rest all-free) }

      -- It has ended: it is answered, and nothing is held.
      pub feeds-answered : r.ended ≡ true
          → Feeds say next s (take held line) (take r.taken piece) (say s (take r.held line')) (next s (take r.held line')) []
      feeds-answered e =
          record {
            gives = λ rest.
                rw (t.ended e, append_assoc t.more (line_feed ∷ []) rest, ← append_assoc (take held line) t.more (line_feed ∷ rest), t.is)
                (feed_answers s (take held line ++ t.more) rest all-free);
          }

-- ---- The end of the input

module _ {S : Type 0} (say : S → List ℕ → List ℕ) (next : S → List ℕ → S) (s : S) where
  answered : (p : List ℕ) → NoFeed p → 0 < length p → said_from say next s (lines (p ++ [])) ≡ say s p
  unfolding lines said_from
  answered [] f h = absurd (omega arith)
  answered (b ∷ p) f h = rw (lines-front b p [] f, append-nil p, append-nil (say s (b ∷ p))) refl

  -- Nothing is held.
  pub end_none : (line : List ℕ) {held : ℕ} → held ≡ 0 → said_from say next s (lines (take held line ++ [])) ≡ []
  unfolding lines said_from
  end_none line e = rw e refl

  -- The line that has begun is answered.
  pub end_answers : {line : List ℕ} {held : ℕ} → Holds line held → (held ≡ 0 → ⊥) → said_from say next s (lines (take held line ++ [])) ≡ say s (take held line)
  end_answers {line} {held} o h = answered (take held line) o.free (omega (arith, h, length-take-le held line (omega (arith, o.size, o.within))))
