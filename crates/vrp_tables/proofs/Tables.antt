-- Checking a table: its length, and its first bad record. Over any width.
use Prim.Native.Nat.{ℕ, suc, ◌+◌, ◌*◌, ◌/◌, ◌%◌, ◌≤◌, ◌<◌}
use mathlib.Core.Path.{◌≡◌, refl, sym, subst}
use mathlib.Core.Bool.{Bool, true, false, cond, ◌||◌}
use mathlib.Core.List.{List, [], ◌∷◌, ◌++◌}
use native.Mathlib.Nat.{lt_of_mul-lt-mul_left, le_of_mul-le-mul_left, mul-div_cancel_left}
use native.Mathlib.Omega.{arith}
use borrow.Author.Tests.{lt-ltb, le-ltb}
use lib.Dec.{ltb}
use lib.ListN.{length}
use Rattle.rules.specs.Bytes.{exists, first_index}
use Rattle.rules.specs.Answers.{done, refused, answer, order, first, number}
use Rattle.rules.specs.Settings.{vrps_max}
use Rattle.rules.specs.Origin.{Vrp, vrp, vrp_size, vrps, bad_vrp, table_checks}
use Rattle.rules.specs.declared.Refusal.TheVariants.{BadLength, BadVrp}
use Rattle.rules.proofs.Lists.{Past, past_start, past_next, past-found, past_end}
use Rattle.rules.proofs.Fixed.{whole-mod, not_whole-mod, whole-count}
use Rattle.vrp_tables.specs.Table.{table_check}
use Rattle.vrp_tables.proofs.Scans.{size_pos, vrps-next, vrps-short}

-- Whether some element passes a test, by the first that does.
some_first : {A : Type 0} (p : A → Bool) (l : List A) → first_index p l < length l → exists p l ≡ true
unfolding exists first_index
some_first p [] h = absurd (omega arith)
some_first p (x ∷ l) h = go (p x) h (some_first p l)
  where
    go : (b : Bool) → cond b 0 (suc (first_index p l)) < suc (length l) → (first_index p l < length l → exists p l ≡ true) → (b || exists p l) ≡ true
    go true k ih = refl
    go false k ih = ih (omega arith)

none_first : {A : Type 0} (p : A → Bool) (l : List A) → length l ≤ first_index p l → exists p l ≡ false
unfolding exists first_index
none_first p [] h = refl
none_first p (x ∷ l) h = go (p x) h (none_first p l)
  where
    go : (b : Bool) → suc (length l) ≤ cond b 0 (suc (first_index p l)) → (length l ≤ first_index p l → exists p l ≡ false) → (b || exists p l) ≡ false
    go true k ih = absurd (omega arith)
    go false k ih = ih (omega arith)

-- The search for the first bad record, that has some bytes left: no record before them is bad, and so many are passed.
pub record Checking (w : ℕ) (table rest : List ℕ) (index : ℕ) : Type 0 where
  pub even : length table % vrp_size w ≡ 0
  pub past : Past (bad_vrp w) (vrps w table) (vrps w rest) index

module _ (w : ℕ) (table : List ℕ) where
  -- A length that is no multiple of a record, and one of too many records.
  pub table_torn : (length table % vrp_size w ≡ 0 → ⊥) → refused BadLength ≡ table_check w table
  unfolding table_check table_checks answer order first number
  table_torn h = rw (not_whole-mod (vrp_size w) (size_pos w) table h) refl

  module _ (m : length table % vrp_size w ≡ 0) where
    records : length table ≡ vrp_size w * length (vrps w table)
    unfolding vrps
    records = whole-count (vrp w) (vrp_size w) (size_pos w) table m

    table_count : length table / vrp_size w ≡ length (vrps w table)
    table_count = rw records (mul-div_cancel_left _ (size_pos w))

    pub table-long : vrp_size w * vrps_max < length table → refused BadLength ≡ table_check w table
    unfolding table_check table_checks answer order first number
    table-long h =
        rw (whole-mod (vrp_size w) (size_pos w) table m, lt-ltb vrps_max (length (vrps w table)) (lt_of_mul-lt-mul_left (vrp_size w) (omega (arith, records)))) refl

    pub table_start : {rest : List ℕ} → rest ≡ table → Checking w table rest 0
    table_start e = record { even = m; past = rw e (past_start (vrps w table)) }

    -- The first bad record is found, or none is bad.
    module _ (h : length table ≤ vrp_size w * vrps_max) {bad : ℕ} (e : bad ≡ first_index (bad_vrp w) (vrps w table)) where
      few-records : ltb vrps_max (length (vrps w table)) ≡ false
      few-records = le-ltb vrps_max (length (vrps w table)) (le_of_mul-le-mul_left {k = vrp_size w} (omega (arith, h, records)) (size_pos w))

      pub table_bad : bad < length table / vrp_size w → refused (BadVrp bad) ≡ table_check w table
      unfolding table_check table_checks answer order first number
      table_bad l =
          let f = some_first (bad_vrp w) (vrps w table) (omega (arith, l, e, table_count)) in
          rw (whole-mod (vrp_size w) (size_pos w) table m, few-records, f, e) refl

      pub table-good : length table / vrp_size w ≤ bad → done (length table / vrp_size w) ≡ table_check w table
      unfolding table_check table_checks answer order first number
      table-good l =
          let f = none_first (bad_vrp w) (vrps w table) (omega (arith, l, e, table_count)) in
          rw (whole-mod (vrp_size w) (size_pos w) table m, few-records, f, table_count) refl

module _ {w : ℕ} {table s : List ℕ} {index : ℕ} (c : Checking w table s index) where
  -- No record is left.
  pub bad-end : length s < vrp_size w → length table / vrp_size w ≡ first_index (bad_vrp w) (vrps w table)
  unfolding first_index
  bad-end h =
      let f = past_end (subst (λ (l : List Vrp). Past (bad_vrp w) (vrps w table) l index) (vrps-short w s h) c.past) in
      let p = rw (vrps-short w s h) at c.past.at in
      omega (arith, table_count w table c.even, f.1, p)

  -- One is left, and it is bad or not.
  module _ (x rest : List ℕ) (e : s ≡ x ++ rest) (h : length x ≡ vrp_size w) where
    left : Past (bad_vrp w) (vrps w table) (vrp w x ∷ vrps w rest) index
    left = subst (λ (l : List Vrp). Past (bad_vrp w) (vrps w table) l index) (vrps-next w x rest e h) c.past

    pub bad-here : bad_vrp w (vrp w x) ≡ true → index ≡ first_index (bad_vrp w) (vrps w table)
    bad-here b = sym (past-found left b).1

    pub bad-next : bad_vrp w (vrp w x) ≡ false → Checking w table rest (index + 1)
    bad-next b = record { even = c.even; past = past_next left b refl }
