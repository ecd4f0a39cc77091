-- The answers of a build and of an insertion, in the code's order. Over any width.
use mathlib.Core.Path.{◌≡◌, refl, sym, ap, ◌∙◌}
use mathlib.Core.Logic.{⊎_elim}
use mathlib.Core.Bool.{Bool, true, false, not, true≢false}
use mathlib.Core.List.{List, [], ◌∷◌, ◌++◌, map, map-append}
use Prim.Native.Nat.{ℕ, ◌+◌, ◌-◌, ◌/◌, ◌%◌, ◌≤◌, ◌<◌}
use native.Mathlib.Nat.{add-mod_right}
use native.Mathlib.Omega.{arith}
use borrow.Author.Tests.{lt-ltb, le-ltb, ltb-false, eq-eqb, ne_eqb, not-false}
use lib.Dec.{ltb}
use lib.ListN.{length, length-append}
use Rattle.rules.specs.Bytes.{exists, first_index, one_of}
use Rattle.rules.specs.Rows.{chop, by, whole}
use Rattle.std.specs.Prelude.{Option, Some, None}
use Rattle.std.specs.Option.{ok_or}
use Rattle.rules.specs.Answers.{done, refused, answer, order, first, number, told}
use Rattle.rules.specs.Settings.{vrps_max}
use Rattle.rules.specs.Origin.{vrp, vrps, vrp_size, bad_vrp, table_checks}
use Rattle.rules.specs.Index.{nodes_in, nodes_lent, build_index, insert_record, Inserts}
use Rattle.rules.specs.declared.Refusal.{Refusal}
use Rattle.rules.specs.declared.Refusal.TheVariants.{BadLength, BadVrp, NoRoom}
use Rattle.rules.proofs.Answers.{Passed, earlier, here, past, answer-decided, answer-passed}
use Rattle.rules.proofs.Lists.{neither, Past, past_start, past_next, past-found, past_end}
use Rattle.rules.proofs.Fixed.{whole-mod, not_whole-mod, items_more}
use Rattle.octets.specs.Numbers.{Octets}
use Rattle.vrps.specs.Widths.{Whole}
use Rattle.vrps.specs.Weighing.{Good}
use Rattle.vrp_tree.specs.Tree.{parts_of, turned, newest}
use Rattle.vrp_tree.specs.Memory.{Held, Holds}
use Rattle.vrp_tree.proofs.Numbers.{same}
use Rattle.vrp_tree.proofs.Parts.{turned-length, parts-some}
use Rattle.vrp_tree.proofs.Visiting.{Fit, also, linked-fit}
use Rattle.index.specs.Steps.{Put, Puts}
use Rattle.index.proofs.Holding.{record-fits}
use Rattle.index.proofs.Counting.{table_nodes}

pub newest-length : (w : ℕ) (table : List ℕ) → length (newest w table) ≡ length (vrps w table)
newest-length w table = turned-length (vrps w table) [] ∙ omega arith

-- ## A table that the checks take

module _ (w : ℕ) (table : List ℕ) (taken : Passed order (table_checks w table)) where
  taken-length : (not (whole (chop (by (vrp_size w)) table)) ≡ false) × (ltb vrps_max (length (vrps w table)) ≡ false)
  unfolding table_checks order number one_of exists
  taken-length = neither (not (whole (chop (by (vrp_size w)) table))) (ltb vrps_max (length (vrps w table))) (taken.0 refl)

  pub taken-few : length (vrps w table) ≤ vrps_max
  taken-few = ltb-false vrps_max (length (vrps w table)) taken-length.1

  pub taken-good : exists (bad_vrp w) (vrps w table) ≡ false
  unfolding table_checks order number one_of exists
  taken-good = taken.1.0 refl

  taken-whole : length table % vrp_size w ≡ 0
  unfolding vrp_size
  taken-whole = ⊎_elim (λ z. z)
      (λ ne. absurd (true≢false (sym (not-false _ taken-length.0) ∙ not_whole-mod (w / 8 + 6) (omega arith) table ne)))
      (same (length table % vrp_size w) 0)

  module _ (memory : List ℕ) where
    -- There is no room for its index.
    pub taken-full : Fit w (newest w table) → length memory / 3 < length (parts_of w (newest w table)) + length (vrps w table)
        → refused NoRoom ≡ build_index w table memory
    unfolding build_index table_checks nodes_lent order number one_of exists earlier
    taken-full f l =
        let short = lt-ltb (length memory / 3 - length (vrps w table)) (nodes_in w (vrps w table)) (omega (arith, l, table_nodes w table f, parts-some w (newest w table))) in
        sym (answer-decided order _ refl (past (λ u. taken.0 refl) (past (λ u. taken.1.0 refl) (here refl short tt))))

    -- Its index is there.
    module _ {memory' : List ℕ} (held : Held w (newest w table) memory') where
      pub taken-holds : Holds w table memory'
      taken-holds = record { whole = taken-whole; good = taken-good; index = held }

      pub taken-done : length memory' ≡ length memory → {r : ℕ} → length (parts_of w (newest w table)) ≡ r → done r ≡ build_index w table memory
      unfolding build_index table_checks nodes_lent order number one_of exists
      taken-done n e =
          let c = table_nodes w table (linked-fit held.linked) in
          let enough = le-ltb (length memory / 3 - length (vrps w table)) (nodes_in w (vrps w table)) (omega (arith, held.room, c, n, newest-length w table)) in
          ap done (sym e ∙ c) ∙ sym (answer-passed order _ _ (taken.0, (taken.1.0, (λ u. enough, tt))))

-- ## A table with one record more

turned_last : {A : Type 0} (l : List A) (x : A) (vs : List A) → turned (l ++ (x ∷ [])) vs ≡ x ∷ turned l vs
unfolding turned
turned_last [] x vs = refl
turned_last (y ∷ l) x vs = turned_last l x (y ∷ vs)

-- Where none of some elements passes a test, those after them decide.
past_all : {A : Type 0} (p : A → Bool) (l m : List A) → exists p l ≡ false → Past p (l ++ m) m (length l)
unfolding exists first_index
past_all p [] m e = past_start m
past_all p (x ∷ l) m e =
    let n = neither (p x) (exists p l) e in
    let k = past_all p l m n.1 in
    record { counted = omega (arith, k.counted); same = rw n.0 k.same; at = rw n.0 (omega (arith, k.at)) }

module _ {w : ℕ} {table memory : List ℕ} (h : Holds w table memory) (s : List ℕ) (e : length s ≡ vrp_size w) where
  more-is : vrps w (table ++ s) ≡ vrps w table ++ (vrp w s ∷ [])
  unfolding vrps vrp_size
  more-is = ap (map (vrp w)) (items_more (w / 8 + 6) (omega arith) table s h.whole e) ∙ map-append (vrp w) (chop (by (w / 8 + 6)) table).items (s ∷ [])

  more-newest : newest w (table ++ s) ≡ vrp w s ∷ newest w table
  more-newest = ap (λ l. turned l []) more-is ∙ turned_last (vrps w table) (vrp w s) []

  more-length : length (vrps w (table ++ s)) ≡ length (vrps w table) + 1
  more-length = ap length more-is ∙ length-append (vrps w table) (vrp w s ∷ [])

  more-whole : whole (chop (by (vrp_size w)) (table ++ s)) ≡ true
  unfolding vrp_size
  more-whole =
      whole-mod (w / 8 + 6) (omega arith) (table ++ s)
      (ap (λ (n : ℕ). n % (w / 8 + 6)) (length-append table s ∙ ap (λ (n : ℕ). length table + n) e) ∙ add-mod_right (length table) (w / 8 + 6) ∙ h.whole)

  more-past : Past (bad_vrp w) (vrps w (table ++ s)) (vrp w s ∷ []) (length (vrps w table))
  more-past = rw more-is (past_all (bad_vrp w) (vrps w table) (vrp w s ∷ []) h.good)

  more-long : vrps_max ≤ length (vrps w table) → refused BadLength ≡ build_index w (table ++ s) memory
  unfolding build_index table_checks answer order first number
  more-long l = rw (more-whole, lt-ltb vrps_max (length (vrps w (table ++ s))) (omega (arith, more-length))) refl

  module _ (l : length (vrps w table) < vrps_max) where
    few : ltb vrps_max (length (vrps w (table ++ s))) ≡ false
    few = le-ltb vrps_max (length (vrps w (table ++ s))) (omega (arith, more-length))

    more_bad : bad_vrp w (vrp w s) ≡ true → refused (BadVrp (length (vrps w table))) ≡ build_index w (table ++ s) memory
    unfolding build_index table_checks answer order first number
    more_bad b = let f = past-found more-past b in rw (more-whole, few, f.0, f.1) refl

    more-taken : Good w s → Passed order (table_checks w (table ++ s))
    unfolding table_checks
    more-taken g = (λ u. rw (more-whole, few) refl, (λ u. (past_end (past_next more-past g refl)).0, tt))

-- ## The ways out of an insertion

module _ (w : ℕ) (added memory : List ℕ) (records nodes : ℕ) where
  -- A refusal leaves the memory as it was.
  abbrev Told : Refusal → Type 0
  Told r = (table : List ℕ) → Holds w table memory → length (vrps w table) ≡ records → nodes_in w (vrps w table) ≡ nodes
      → refused r ≡ insert_record w table added memory

  refusing : {r : Refusal} {memory' : List ℕ} → Told r → memory' ≡ memory → Inserts Holds w added memory records nodes (refused r) memory'
  refusing t k = record { told = t; held = λ table h c d n q. let z : ◌≡◌ {A = ℕ} 0 1 = cc in absurd (omega arith); kept = λ r q. k }

  pub insert-length : (length added ≡ vrp_size w → ⊥) → Inserts Holds w added memory records nodes (refused BadLength) memory
  unfolding insert_record
  insert-length ne = refusing (λ table h c d. rw (ne_eqb (length added) (vrp_size w) ne) refl) refl

  module _ (e : length added ≡ vrp_size w) where
    by_build : (table : List ℕ) → build_index w (table ++ added) memory ≡ insert_record w table added memory
    unfolding insert_record
    by_build table = rw (eq-eqb (length added) (vrp_size w) e) refl

    pub insert-long : vrps_max ≤ records → Inserts Holds w added memory records nodes (refused BadLength) memory
    insert-long l = refusing (λ table h c d. more-long h added e (omega (arith, l, c)) ∙ by_build table) refl

    module _ (l : records < vrps_max) where
      pub insert_bad : bad_vrp w (vrp w added) ≡ true → Inserts Holds w added memory records nodes (refused (BadVrp records)) memory
      insert_bad b = refusing (λ table h c d. ap (λ n. refused (BadVrp n)) (sym c) ∙ more_bad h added e (omega (arith, l, c)) b ∙ by_build table) refl

      module _ (g : Good w added) {memory' : List ℕ} {made : Option ℕ} (puts : Puts w (vrp w added) memory records nodes memory' made) where
        module _ (table : List ℕ) (h : Holds w table memory) (c : length (vrps w table) ≡ records) (d : nodes_in w (vrps w table) ≡ nodes) where
          put : Put w (vrp w added) (newest w table) memory memory' made
          put = puts.put (newest w table) h.index (newest-length w table ∙ c) (table_nodes w table (linked-fit h.index.linked) ∙ d) l

          taken : Passed order (table_checks w (table ++ added))
          taken = more-taken h added e (omega (arith, l, c)) g

          held : {n : ℕ} → made ≡ Some n → Held w (newest w (table ++ added)) memory'
          held {n} p = rw (more-newest h added e) (put.held n p)

        pub insert-full : Whole w → Octets added → made ≡ None → Inserts Holds w added memory records nodes (refused NoRoom) memory'
        insert-full whole o z =
            refusing (λ table h c d.
            let n = more-newest h added e in
            taken-full w (table ++ added) (taken table h c d) memory (rw n (also (record-fits whole added o e g) (linked-fit h.index.linked)))
            (rw n (omega (arith, (put table h c d).full z, more-length h added e, newest-length w table)))
            ∙ by_build table)
            (puts.kept z)

        pub insert-done : {n : ℕ} → made ≡ Some n → length memory' ≡ length memory → Inserts Holds w added memory records nodes (done n) memory'
        insert-done {n} p size =
            record {
              told = λ table h c d.
                  taken-done w (table ++ added) (taken table h c d) memory (held table h c d p) size (rw (more-newest h added e) ((put table h c d).count n p)) ∙ by_build table;
              held = λ table h c d m q. taken-holds w (table ++ added) (taken table h c d) memory (held table h c d p);
              kept = λ s q. let z : ◌≡◌ {A = ℕ} 0 1 = cc in absurd (omega arith);
            }

        -- What was put, or no room for it.
        pub insert-put : Whole w → Octets added → length memory' ≡ length memory → Inserts Holds w added memory records nodes (told (ok_or made NoRoom)) memory'
        unfolding told
        insert-put whole o size = go made refl
          where
            go : (m : Option ℕ) → made ≡ m → Inserts Holds w added memory records nodes (told (ok_or m NoRoom)) memory'
            go None z = insert-full whole o z
            go (Some n) p = insert-done p size
