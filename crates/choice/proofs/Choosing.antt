-- The answers of choosing and of comparing: what each way out of the code answers is what the definition does.
use Prim.Native.Nat.{ℕ, ◌+◌, ◌*◌, ◌/◌, ◌%◌, ◌≤◌, ◌<◌}
use mathlib.Core.Path.{◌≡◌, refl, sym, ap, ◌∙◌}
use mathlib.Core.Bool.{Bool, true, false, not, cond, false≢true}
use mathlib.Core.List.{List, [], ◌∷◌, ◌++◌, map}
use native.Mathlib.Omega.{arith}
use borrow.Author.Tests.{lt-ltb, le-ltb}
use denote.Ref.{Bor}
use lib.Dec.{ltb}
use lib.ListN.{length, length-append}
use Rattle.rules.specs.Bytes.{one_of, exists}
use Rattle.rules.specs.Rows.{Row, chop, whole, by, with_item}
use Rattle.rules.specs.Answers.{Answer, done, refused, order, number, answer_number, beside_number}
use Rattle.rules.specs.Settings.{candidates_max, mode_ok, mode_meant}
use Rattle.rules.specs.Choice.{Candidate, offer_size, offer, offers, candidate, bad_candidate, bad_offer, numbered_from, left_of, keys, before, choose_checks, choose_in, better, Shows, Compared}
use Rattle.rules.specs.declared.Offer.{Offer}
use Rattle.rules.specs.declared.Refusal.TheVariants.{BadSetting, BadLength, BadCandidate, NoRoute}
use Rattle.rules.proofs.Answers.{here, past, earlier, answer-decided, answer-passed}
use Rattle.rules.proofs.Lists.{Past, past_start, past_next, past-found, past_end}
use Rattle.rules.proofs.Fixed.{whole-mod, not_whole-mod, whole-count}
use Rattle.rules.proofs.Rows.{fit_none, chop_stop, chop-front}
use Rattle.std.specs.Prelude.{Option, Some, None}
use Rattle.choice.specs.declared.best.BestRoute.{BestRoute}
use Rattle.choice.specs.Keys.{keys_in, keys_of, listed}
use Rattle.choice.specs.Bests.{left_in, taken}
use Rattle.choice.proofs.Candidates.{lent, lent_is}
use Rattle.choice.proofs.Taking.{taken_all, taken-on, taken-left, taken_none, taken-some}

-- The first `index` candidates of a table s are met, and those in `rest` are not: none of the first is bad, at most as many are left, and the
-- best of them with those after them gives the best of all.
pub record Met (client : ℕ) (buffer s : List ℕ) (meant : ℕ) (best : Option BestRoute) (rest : List ℕ) (index : ℕ) : Type 0 where
  pub few : left_in best ≤ index
  pub size : offer_size * index + length rest ≡ length s
  pub past : Past (bad_offer buffer) (offers s) (offers rest) index
  pub gives : taken_all meant client best (numbered_from index (map (candidate buffer) (offers rest)))
      ≡ taken_all meant client None (numbered_from 0 (map (candidate buffer) (offers s)))

pub met_start : (client : ℕ) (buffer s : List ℕ) (meant : ℕ) → Met client buffer s meant None s 0
unfolding left_in
met_start client buffer s meant = record { few = omega arith; size = omega arith; past = past_start (offers s); gives = refl }

-- The next candidate is o, and `after` is not met.
module _ {client : ℕ} {buffer s : List ℕ} {meant : ℕ} {best : Option BestRoute} {rest : List ℕ} {index : ℕ} (w : Met client buffer s meant best rest index)
    (bytes after : List ℕ) (cut : rest ≡ bytes ++ after) (n : length bytes ≡ offer_size) {o : Offer} (q : o ≡ offer bytes) where
  table-next : offers rest ≡ o ∷ offers after
  unfolding offers by with_item
  table-next = rw (q, cut) (ap (λ (r : Row). map offer r.items) (chop-front (by offer_size) bytes after (sym n) (omega (arith, n))))

  pub met_room : length s / offer_size ≤ candidates_max → left_in best < candidates_max
  met_room h = omega (arith, h, w.few, w.size, n, ap length cut, length-append bytes after)

  pub met_next : bad_offer buffer o ≡ false → {b : Option BestRoute} → b ≡ taken meant client best index (lent buffer o) → Met client buffer s meant b after (index + 1)
  met_next e {b} d =
      record {
        few = rw d (omega (arith, taken-left meant client best index (lent buffer o), w.few));
        size = omega (arith, w.size, n, ap length cut, length-append bytes after);
        past = past_next (rw table-next at w.past) e refl;
        gives = rw (d, lent_is buffer o) (sym (taken-on meant client best index (candidate buffer o) _ refl) ∙ rw table-next at w.gives);
      }

-- A check of a later number, of which nothing is asked.
later : {A : Type 0} → false ≡ true → A
later e = absurd (false≢true e)

module _ (mode client : ℕ) (buffer s : List ℕ) where
  pub choose_setting : mode_ok mode ≡ false → refused BadSetting ≡ choose_in mode client buffer s
  unfolding choose_in choose_checks order number earlier one_of exists
  choose_setting e = sym (answer-decided order _ refl (past later (here refl (rw e refl) (later, (later, (later, tt))))))

  module _ (ok : mode_ok mode ≡ true) where
    fine : not (mode_ok mode) ≡ false
    fine = rw ok refl

    pub choose_torn : (length s % offer_size ≡ 0 → ⊥) → refused BadLength ≡ choose_in mode client buffer s
    unfolding choose_in choose_checks order number earlier one_of exists
    choose_torn h =
        sym (answer-decided order _ refl (here refl (rw (not_whole-mod offer_size (omega arith) s h) refl) (λ z. fine, (later, (later, (later, tt))))))

    module _ (m : length s % offer_size ≡ 0) where
      untorn : not (whole (chop (by offer_size) s)) ≡ false
      untorn = rw (whole-mod offer_size (omega arith) s m) refl

      count : length s ≡ offer_size * length (offers s)
      unfolding offers
      count = whole-count offer offer_size (omega arith) s m

      pub choose_many : candidates_max < length s / offer_size → refused BadLength ≡ choose_in mode client buffer s
      unfolding choose_in choose_checks order number earlier one_of exists
      choose_many h =
          sym (answer-decided order _ refl
          (past (λ z. untorn) (past (λ z. fine) (here refl (lt-ltb candidates_max (length (offers s)) (omega (arith, count))) (later, (later, tt))))))

      module _ (h : length s / offer_size ≤ candidates_max) {meant : ℕ} {best : Option BestRoute} {rest : List ℕ} {index : ℕ} (w : Met client buffer s meant best rest index) where
        few : ltb candidates_max (length (offers s)) ≡ false
        few = le-ltb candidates_max (length (offers s)) (omega (arith, count))

        pub choose_bad : (bytes after : List ℕ) → rest ≡ bytes ++ after → length bytes ≡ offer_size → {o : Offer} → o ≡ offer bytes → bad_offer buffer o ≡ true
            → refused (BadCandidate index) ≡ choose_in mode client buffer s
        unfolding choose_in choose_checks order number earlier one_of exists
        choose_bad bytes after cut n q e =
            let f = past-found (rw (table-next w bytes after cut n q) at w.past) e in
            sym (answer-decided order {r = BadCandidate index} _ refl
            (past (λ z. untorn) (past (λ z. fine) (past (λ z. few) (here (ap BadCandidate f.1) f.0 (later, tt))))))

        -- At the end of the table.
        module _ (i : length rest < offer_size) (z : meant ≡ mode_meant mode) where
          end : offers rest ≡ []
          unfolding offers by
          end = ap (λ (r : Row). map offer r.items) (chop_stop (by offer_size) rest (fit_none (by offer_size) rest i))

          sound : exists (bad_offer buffer) (offers s) ≡ false
          sound = (past_end (rw end at w.past)).0

          all : best ≡ taken_all (mode_meant mode) client None (numbered_from 0 (map (candidate buffer) (offers s)))
          unfolding taken_all numbered_from
          all = rw (end, z) at w.gives

          pub choose-none : best ≡ None → refused NoRoute ≡ choose_in mode client buffer s
          unfolding choose_in choose_checks left_of order number earlier one_of exists
          choose-none e =
              sym (answer-decided order {r = NoRoute} _ refl
              (past (λ y. untorn) (past (λ y. fine) (past (λ y. few) (past (λ y. sound) (here refl (taken_none (mode_meant mode) client _ (sym e ∙ all)) tt))))))

          pub choose-some : {b : BestRoute} → best ≡ Some b → done (record { index = b.index; left = b.left }) ≡ choose_in mode client buffer s
          unfolding choose_in choose_checks left_of
          choose-some e =
              let f = taken-some (mode_meant mode) client (map (candidate buffer) (offers s)) (sym e ∙ all) in
              ap done f.1
              ∙ sym (answer-passed order (_ ∷ choose_checks mode client buffer (offers s)) _ (λ y. untorn, (λ y. fine, (λ y. few, (λ y. sound, (λ y. f.0, tt))))))

-- Comparing two.
module _ (a b : Candidate) where
  pub better-first : bad_candidate a ≡ true → better a b ≡ refused (BadCandidate 0)
  unfolding better order number earlier one_of exists
  better-first e = answer-decided order {r = BadCandidate 0} _ refl (here refl e (later, tt))

  pub better_second : bad_candidate a ≡ false → bad_candidate b ≡ true → better a b ≡ refused (BadCandidate 1)
  unfolding better order number earlier one_of exists
  better_second e f = answer-decided order {r = BadCandidate 1} _ refl (past (λ z. e) (here refl f tt))

  pub better-neither : bad_candidate a ≡ false → bad_candidate b ≡ false → {t : Bool} → before (listed (keys_of b)) (listed (keys_of a)) ≡ t
      → better a b ≡ done (cond t 1 0)
  unfolding better keys keys_in listed
  better-neither e f q = answer-passed order _ _ (λ z. e, (λ z. f, tt)) ∙ rw q refl

-- What is told of two candidates and the block shown, as comparing promises them.
pub compared : {decided told : Answer ℕ} {a b shown : Bor (List ℕ)} → told ≡ decided → Shows decided a b shown
    → (told ≡ decided) × Compared decided a b shown (answer_number told) (beside_number told)
compared e s = (e, record { answered = ap answer_number e; beside = ap beside_number e; shows = s })
