-- What feeding promises, put together: nothing fed, one piece after another, a line held and a line answered, and the end.
use Prim.Native.Nat.{ℕ, ◌+◌, ◌-◌, ◌≤◌, ◌<◌}
use mathlib.Core.Path.{◌≡◌, refl, sym, ap, ◌∙◌, subst}
use mathlib.Core.Bool.{true, false}
use mathlib.Core.List.{List, [], ◌∷◌, ◌++◌}
use native.Mathlib.Omega.{arith}
use lib.ListN.{length, take, drop, length-append}
use lib.Seq.{take-add}
use Rattle.rules.specs.Desk.{line_answer, line_field, line_next}
use Rattle.octets.proofs.Slices.{tail_is, tail_length}
use Rattle.octets.proofs.Writing.{stored-none, stored_then}
use Rattle.input_lines.specs.declared.Cut.{Cut}
use Rattle.input_lines.specs.Lines.{Took}
use Rattle.input_lines.specs.Feeding.{Capped}
use Rattle.text.proofs.Spelling.{unreadable-long}
use Rattle.input_lines.proofs.Lining.{holds-none}
use Rattle.input_lines.proofs.Feeding.{feeds-none, feeds_then, feeds-held, feeds-answered, end_none, end_answers}
use Rattle.desk_lines.specs.declared.state.Progress.{Progress}
use Rattle.desk_lines.specs.declared.state.State.{State}
use Rattle.desk_lines.specs.Sizes.{answer_max}
use Rattle.desk_lines.specs.Machine.{desk_says, desk_next, turn_of, future, emptied, Ready, Answered, Consumed, Fed, Progressed}

-- A line over 8,192 digits is answered 12 and changes nothing, whatever it holds.
desk-capped : Capped desk_says desk_next
unfolding desk_says desk_next line_answer line_field line_next
desk-capped =
    record {
      alike = λ t p q h k. (rw (← unreadable-long p h, ← unreadable-long q k) refl, rw (← unreadable-long p h, ← unreadable-long q k) refl);
    }

-- Nothing is consumed.
pub consumed-none : (s : State) (tables line : List ℕ) → Ready s tables line → Consumed s tables line [] s tables line
consumed-none s tables line r = record { said = []; feeds = feeds-none (turn_of s tables) (take s.held line); ready = r; count = omega arith }

-- One piece after another.
pub consumed_then : {s s' s'' : State} {t l t' l' t'' l'' p q : List ℕ} → Consumed s t l p s' t' l' → Consumed s' t' l' q s'' t'' l''
    → Consumed s t l (p ++ q) s'' t'' l''
consumed_then {p = p} {q = q} C D =
    record {
      said = C.said ++ D.said;
      feeds = feeds_then C.feeds D.feeds;
      ready = D.ready;
      count = omega (arith, C.count, D.count, length-append p q);
    }

-- What is written is no part of what is to come: it may be taken away.
pub consumed-emptied : {s s' : State} {t l p t' l' : List ℕ} → Consumed s t l p s' t' l' → Consumed s t l p (emptied s') t' l'
unfolding turn_of
consumed-emptied C = record { said = C.said; feeds = C.feeds; ready = record { holds = C.ready.holds; keeps = C.ready.keeps }; count = C.count }

-- The bytes after the first `at`, of those that `&x[at..]` lends.
pub taken_next : (at n : ℕ) (x : List ℕ) → take at x ++ take n (take (length x - at) (drop at x)) ≡ take (at + n) x
taken_next at n x = sym (take-add at n x ∙ ap (λ (q : List ℕ). take at x ++ take n q) (sym (tail_is x at)))

-- Nothing is fed.
fed-none : (s : State) (tables line out : List ℕ) → Ready s tables line → Fed s tables line out [] s tables line out
unfolding consumed-none
fed-none s tables line out r = record { consumed = consumed-none s tables line r; stored = stored-none out s.wrote refl }

fed_then : {s s' s'' : State} {t l o t' l' o' t'' l'' o'' p q : List ℕ} → s.wrote ≤ length o
    → Fed s t l o p s' t' l' o' → Fed s' t' l' o' q s'' t'' l'' o'' → Fed s t l o (p ++ q) s'' t'' l'' o''
unfolding consumed_then
fed_then h F G = record { consumed = consumed_then F.consumed G.consumed; stored = stored_then h F.stored G.stored }

-- What one cut took of a piece: it is held, or the line has ended and was answered.
module _ (s : State) (tables : List ℕ) {line piece line' : List ℕ} {r : Cut} (R : Ready s tables line) (t : Took line s.held piece r line') where
  pub fed-held : (out : List ℕ) → s.wrote ≤ length out → r.ended ≡ false
      → Progressed s tables line out piece (record { taken = r.taken; state = record { number = s.number; held = r.held; wrote = s.wrote; kept = s.kept } })
      tables line' out
  unfolding turn_of
  fed-held out h e =
      record {
        fed =
            record {
              consumed =
                  record {
                    said = [];
                    feeds = feeds-held desk-capped (turn_of s tables) R.holds t e;
                    ready = record { holds = t.holds; keeps = R.keeps };
                    count = omega arith;
                  };
              stored = stored-none out s.wrote refl;
            };
        within = t.within;
        room = h;
        some = λ n k. t.some n;
      }

  pub fed-answered : {out : List ℕ} {s' : State} {tables' out' : List ℕ} → s.wrote + answer_max ≤ length out → r.ended ≡ true
      → Answered s tables (take r.held line') out s' tables' out' → Progressed s tables line out piece (record { taken = r.taken; state = s' }) tables' line' out'
  fed-answered h e A =
      let n : length (take r.taken piece) ≡ length t.more + 1 = ap length (t.ended e) ∙ length-append t.more (10 ∷ []) in
      record {
        fed =
            record {
              consumed =
                  record {
                    said = desk_says (turn_of s tables) (take r.held line');
                    feeds = rw (A.next, A.held) (feeds-answered desk-capped (turn_of s tables) R.holds t e);
                    ready = record { holds = rw A.held (holds-none t.holds.size); keeps = A.keeps };
                    count = omega (arith, A.number);
                  };
              stored = A.said;
            };
        within = t.within;
        room = omega (arith, A.room);
        some = λ n k. t.some n;
      }

-- Of a piece x the bytes before `at` are fed; where that is none, nothing is written.
pub record Feeding (s : State) (t l o x : List ℕ) (at : ℕ) (s' : State) (t' l' o' : List ℕ) : Type 0 where
  pub fed : Fed s t l o (take at x) s' t' l' o'
  pub within : at ≤ length x
  pub wrote : at ≡ 0 → s'.wrote ≡ s.wrote

pub feeding_start : {s : State} {t l : List ℕ} (o x : List ℕ) → Ready s t l → Feeding s t l o x 0 s t l o
feeding_start {s} {t} {l} o x R = record { fed = fed-none s t l o R; within = omega arith; wrote = λ e. refl }

module _ {s s' : State} {t l o x t' l' o' : List ℕ} {at : ℕ} (F : Feeding s t l o x at s' t' l' o') where
  -- The next bytes, of those that `&x[at..]` lends, are fed.
  pub feeding_on : {r : Progress} {t'' l'' o'' : List ℕ} → s.wrote ≤ length o → 0 < r.taken
      → Progressed s' t' l' o' (take (length x - at) (drop at x)) r t'' l'' o'' → Feeding s t l o x (at + r.taken) r.state t'' l'' o''
  feeding_on {r} {t''} {l''} {o''} h n P =
      record {
        fed =
            subst (λ (p : List ℕ). Fed s t l o p r.state t'' l'' o'') (taken_next at r.taken x) (fed_then h F.fed P.fed);
        within = omega (arith, P.within, tail_length x at, F.within);
        wrote = λ e. absurd (omega (arith, n, e));
      }

  -- The bytes are all fed, or there was no room for an answer.
  pub feeding_end : s'.wrote ≤ length o → (at ≡ 0 → s'.wrote ≡ s.wrote → 0 < length x → s.wrote + answer_max ≤ length o → ⊥)
      → Progressed s t l o x (record { taken = at; state = s' }) t' l' o'
  feeding_end h stop = record { fed = F.fed; within = F.within; room = h; some = λ a b. positive at (λ e. stop e (F.wrote e) a b) }
    where
      positive : (n : ℕ) → (n ≡ 0 → ⊥) → 0 < n
      positive n f = omega (arith, f)

-- The end of the input: nothing is held, or the line that has begun is answered.
module _ (s : State) (tables line : List ℕ) where
  pub ended-none : s.held ≡ 0 → future s tables line [] ≡ []
  unfolding future
  ended-none e = end_none desk_says desk_next (turn_of s tables) line e

  pub ended-said : Ready s tables line → (s.held ≡ 0 → ⊥) → future s tables line [] ≡ desk_says (turn_of s tables) (take s.held line)
  unfolding future
  ended-said r h = end_answers desk_says desk_next (turn_of s tables) r.holds h
