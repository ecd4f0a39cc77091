-- The ways out of a build, at any width.
use mathlib.Core.Path.{◌≡◌, refl, sym}
use mathlib.Core.Logic.{⊎_elim}
use mathlib.Core.Bool.{Bool, true, false}
use mathlib.Core.List.{List, [], ◌∷◌, ◌++◌}
use Prim.Native.Nat.{ℕ, zero, suc, ◌≤◌, ◌<◌}
use native.Mathlib.Omega.{arith}
use lib.Dec.{ltb}
use lib.ListN.{length, take, drop, replicate, length-drop, take-append-drop}
use lib.Seq.{length-take-le}
use Rattle.std.specs.Prelude.{Option, Some, None}
use Rattle.rules.specs.Answers.{done, refused, ◌when◌, answer, order, first, number}
use Rattle.rules.specs.Settings.{vrps_max}
use Rattle.rules.specs.Origin.{Vrp, vrps, vrp_size, table_checks}
use Rattle.rules.specs.Index.{nodes_in, nodes_lent, build_index, Builds}
use Rattle.rules.specs.declared.Refusal.{Refusal}
use Rattle.rules.specs.declared.Refusal.TheVariants.{BadLength, BadVrp, NoRoom}
use Rattle.rules.proofs.Answers.{Passed, answer-done}
use Rattle.octets.specs.Numbers.{Octets}
use Rattle.octets.proofs.Numbers.{octets_take, octets_drop}
use Rattle.vrps.specs.Widths.{Whole}
use Rattle.vrp_tables.specs.Scan.{GoodTable}
use Rattle.vrp_tables.specs.Table.{table_check}
use Rattle.vrp_tables.proofs.Scans.{size_pos, vrps-short, vrps-next, good-next}
use Rattle.vrp_tree.specs.Tree.{turned, newest}
use Rattle.vrp_tree.specs.Memory.{Holds}
use Rattle.vrp_tree.proofs.Numbers.{lt_or_ge}
use Rattle.vrp_tree.proofs.Visiting.{Fit, all, also}
use Rattle.index.proofs.Holding.{record-fits}
use Rattle.index.proofs.Answering.{taken-few, taken-good, taken-full, taken-holds, taken-done}
use Rattle.build.specs.Filling.{Filled}

-- ## The records of a table with no bad one fit their width

module _ {w : ℕ} (whole : Whole w) where
  fit-from : (fuel : ℕ) (s : List ℕ) → length s < fuel → Octets s → GoodTable w s → {vs : List Vrp} → Fit w vs → Fit w (turned (vrps w s) vs)
  unfolding turned
  fit-from zero s l o g f = absurd (omega arith)
  fit-from (suc fuel) s l o g f = ⊎_elim
      (λ (h : length s < vrp_size w). rw (vrps-short w s h) f)
      (λ (h : vrp_size w ≤ length s).
      let x = take (vrp_size w) s in
      let rest = drop (vrp_size w) s in
      let e : s ≡ x ++ rest = sym (take-append-drop (vrp_size w) s) in
      let size : length x ≡ vrp_size w = length-take-le (vrp_size w) s h in
      let n = good-next w x rest e size g in
      let k = record-fits whole x (octets_take s o (vrp_size w)) size n.0 in
      rw (vrps-next w x rest e size) (fit-from fuel rest (omega (arith, length-drop (vrp_size w) s, size_pos w)) (octets_drop s o (vrp_size w)) n.1 (also k f)))
      (lt_or_ge (length s) (vrp_size w))

  table_fits : (table : List ℕ) → Octets table → GoodTable w table → Fit w (newest w table)
  table_fits table o g = fit-from (suc (length table)) table (omega arith) o g all

-- ## The ways out

-- The checks of a table go before the room: 6 and 9 before 7.
table-first : (i n x : ℕ) {r : Refusal} (p q f : Bool) → refused r ≡ answer order (BadLength when p ∷ BadVrp i when q ∷ []) n
    → (refused r ≡ answer order (BadLength when p ∷ BadVrp i when q ∷ NoRoom when f ∷ []) x) × (r ≡ NoRoom → ⊥)
unfolding answer order first number
table-first i n x true q f e = (e, λ z. let y : ◌≡◌ {A = ℕ} 0 1 = cc in omega arith)
table-first i n x false true f e = (e, λ z. let y : ◌≡◌ {A = ℕ} 0 1 = cc in omega arith)
table-first i n x false false f e = let z : ◌≡◌ {A = ℕ} 0 1 = cc in absurd (omega arith)

module _ (w : ℕ) (table memory : List ℕ) where
  -- The table is refused.
  pub build_refused : {r : Refusal} → refused r ≡ table_check w table → Builds Holds w table memory (refused r) memory
  unfolding table_check table_checks build_index
  build_refused e =
      let k = table-first _ _ (nodes_in w (vrps w table)) _ _ (ltb (nodes_lent memory (vrps w table)) (nodes_in w (vrps w table))) e in
      record {
        told = k.0;
        held = λ n z. let y : ◌≡◌ {A = ℕ} 0 1 = cc in absurd (omega arith);
        cleared = λ z. absurd (k.1 (cc));
        kept = λ s z ne. refl;
      }

  -- It is taken.
  module _ {n : ℕ} (e : done n ≡ table_check w table) where
    taken : Passed order (table_checks w table)
    unfolding table_check
    taken = (answer-done order (table_checks w table) _ n (sym e)).1

    pub build_taken : GoodTable w table × (length (vrps w table) ≤ vrps_max)
    build_taken = (taken-good w table taken, taken-few w table taken)

    module _ {memory' : List ℕ} {made : Option ℕ} (filled : Filled w table memory memory' made) where
      pub build_full : Whole w → Octets table → made ≡ None → {memory'' : List ℕ} → memory'' ≡ replicate (length memory) 0
          → Builds Holds w table memory (refused NoRoom) memory''
      build_full whole o z c =
          record {
            told = taken-full w table taken memory (table_fits whole table o (taken-good w table taken)) (filled.full z);
            held = λ m y. let x : ◌≡◌ {A = ℕ} 0 1 = cc in absurd (omega arith);
            cleared = λ y. c;
            kept = λ s y ne. absurd (ne (cc));
          }

      pub build_done : {n : ℕ} → made ≡ Some n → length memory' ≡ length memory → Builds Holds w table memory (done n) memory'
      build_done {n} m size =
          let h = filled.held n m in
          record {
            told = taken-done w table taken memory h size (filled.count n m);
            held = λ m y. taken-holds w table taken memory h;
            cleared = λ y. let x : ◌≡◌ {A = ℕ} 0 1 = cc in absurd (omega arith);
            kept = λ s y. let x : ◌≡◌ {A = ℕ} 0 1 = cc in absurd (omega arith);
          }
