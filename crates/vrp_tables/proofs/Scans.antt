-- The records of a table from the first on, and the scan over them. Over any width.
use Prim.Native.Nat.{ℕ, ◌-◌, ◌%◌, ◌<◌}
use mathlib.Core.Path.{◌≡◌, refl, sym, ap, ◌∙◌}
use mathlib.Core.Bool.{Bool, true, false, cond, ◌||◌, or-true, or-false}
use mathlib.Core.List.{List, [], ◌∷◌, ◌++◌, map, map-append, append-nil}
use mathlib.Core.Option.{Option}
use native.Mathlib.Nat.{mod_self, zero-mod}
use native.Mathlib.Omega.{arith}
use borrow.Author.Tests.{leb-true, leb-false}
use lib.Dec.{leb}
use lib.ListN.{length, take, drop, length-drop, take-append-drop, drop_of_length-le}
use lib.Seq.{length-take-le, take_all}
use Rattle.rules.specs.Bytes.{exists}
use Rattle.rules.specs.Rows.{chop, by}
use Rattle.rules.specs.Settings.{valid, not_found, invalid}
use Rattle.rules.specs.Origin.{Vrp, vrp, vrp_size, vrps, bad_vrp, covers, matches, state_in}
use Rattle.rules.proofs.Lists.{neither}
use Rattle.rules.proofs.Fixed.{items-append, items_more}
use Rattle.octets.proofs.Positions.{items-end}
use Rattle.vrps.specs.Weighing.{Good, weighed}
use Rattle.vrps.specs.declared.Weight.{Weight}
use Rattle.vrps.specs.declared.Weight.TheVariants.{Apart, Covers, Matches}
use Rattle.vrp_tables.specs.Scan.{GoodTable, state_from}

module _ (w : ℕ) where
  pub size_pos : 0 < vrp_size w
  unfolding vrp_size
  size_pos = omega arith

  -- Too few bytes for a record.
  pub vrps-short : (s : List ℕ) → length s < vrp_size w → vrps w s ≡ []
  unfolding vrps
  vrps-short s h = ap (map (vrp w)) (items-end (vrp_size w) s 0 (omega arith))

  pub vrps-end : (table : List ℕ) (at : ℕ) → length table - at < vrp_size w → vrps w (drop at table) ≡ []
  vrps-end table at h = vrps-short (drop at table) (omega (arith, h, length-drop at table))

  pub vrps-none : vrps w [] ≡ []
  vrps-none = vrps-short [] size_pos

  -- Tables one after the other, the first of whole records.
  pub vrps-append : (v s : List ℕ) → length v % vrp_size w ≡ 0 → vrps w (v ++ s) ≡ vrps w v ++ vrps w s
  unfolding vrps
  vrps-append v s z = ap (map (vrp w)) (items-append (vrp_size w) size_pos v s z) ∙ map-append (vrp w) (chop (by (vrp_size w)) v).items (chop (by (vrp_size w)) s).items

  pub vrps-split : (s : List ℕ) (m : ℕ) → m % vrp_size w ≡ 0 → vrps w s ≡ vrps w (take m s) ++ vrps w (drop m s)
  vrps-split s m z = go (leb m (length s)) refl
    where
      go : (x : Bool) → leb m (length s) ≡ x → vrps w s ≡ vrps w (take m s) ++ vrps w (drop m s)
      go true e =
          ap (vrps w) (sym (take-append-drop m s))
          ∙ vrps-append (take m s) (drop m s) (ap (λ (n : ℕ). n % vrp_size w) (length-take-le m s (leb-true m (length s) e)) ∙ z)
      go false e =
          let l = leb-false m (length s) e in
          sym (rw (take_all m s (omega arith), drop_of_length-le s {i = m} (omega arith), vrps-none) (append-nil (vrps w s)))

  -- One record and those after it, as a table is lent piece by piece.
  module _ {s : List ℕ} (x rest : List ℕ) (e : s ≡ x ++ rest) (h : length x ≡ vrp_size w) where
    one : (chop (by (vrp_size w)) x).items ≡ x ∷ []
    one = items_more (vrp_size w) size_pos [] x (zero-mod (vrp_size w)) h ∙ ap (λ (l : List (List ℕ)). l ++ (x ∷ [])) (items-end (vrp_size w) [] 0 size_pos)

    pub vrps-next : vrps w s ≡ vrp w x ∷ vrps w rest
    unfolding vrps
    vrps-next =
        ap (vrps w) e ∙ vrps-append x rest (rw h (mod_self (vrp_size w)))
        ∙ ap (λ (l : List (List ℕ)). map (vrp w) l ++ vrps w rest) one

    -- Where no record is bad, the first is not, nor those after it.
    pub good-next : GoodTable w s → Good w x × GoodTable w rest
    unfolding exists
    good-next g = neither _ _ (ap (exists (bad_vrp w)) (sym vrps-next) ∙ g)

-- A scan that has some bytes left: no record of them is bad, and with whether one before covers they give the state.
pub record Scanning (w : ℕ) (table : List ℕ) (prefix len : ℕ) (origin : Option ℕ) (covered : Bool) (rest : List ℕ) : Type 0 where
  pub good : GoodTable w rest
  pub state : state_from covered w (vrps w rest) prefix len origin ≡ state_in w (vrps w table) prefix len origin

-- By what the first record is to the route: it matches, or those after it decide, with whether it covers.
module _ (w prefix len : ℕ) (origin : Option ℕ) (covered : Bool) (v : Vrp) (l : List Vrp) where
  onward : Weight → ℕ
  onward Matches = valid
  onward Covers = state_from true w l prefix len origin
  onward Apart = state_from covered w l prefix len origin

  state-next : state_from covered w (v ∷ l) prefix len origin ≡ onward (weighed w v prefix len origin)
  unfolding state_from exists weighed onward
  state-next = go (matches w v prefix len origin) (covers w v prefix len)
    where
      go : (m c : Bool)
          → cond (m || exists (λ v. matches w v prefix len origin) l) valid (cond (covered || (c || exists (λ v. covers w v prefix len) l)) invalid not_found)
          ≡ onward (cond m Matches (cond c Covers Apart))
      go true c = refl
      go false true = rw (or-true covered) refl
      go false false = refl

-- Nothing is scanned yet.
pub scan_start : {w : ℕ} {table rest : List ℕ} {prefix len : ℕ} {origin : Option ℕ} → rest ≡ table → GoodTable w table
    → Scanning w table prefix len origin false rest
unfolding state_from state_in
scan_start e g = rw e (record { good = g; state = refl })

module _ {w : ℕ} {table : List ℕ} {prefix len : ℕ} {origin : Option ℕ} {covered : Bool} {s : List ℕ} (scan : Scanning w table prefix len origin covered s) where
  -- No record is left.
  pub scan_end : length s < vrp_size w → cond covered invalid not_found ≡ state_in w (vrps w table) prefix len origin
  unfolding state_from exists
  scan_end h = sym (rw (vrps-short w s h, or-false) refl) ∙ scan.state

  -- One is left, and it matches or does not.
  module _ (x rest : List ℕ) (e : s ≡ x ++ rest) (h : length x ≡ vrp_size w) where
    pub scan_good : Good w x
    scan_good = (good-next w x rest e h scan.good).0

    module _ {met : Weight} (q : met ≡ weighed w (vrp w x) prefix len origin) where
      step : onward w prefix len origin covered (vrp w x) (vrps w rest) met ≡ state_in w (vrps w table) prefix len origin
      step = rw q (sym (state-next w prefix len origin covered (vrp w x) (vrps w rest))) ∙ sym (ap (λ (l : List Vrp). state_from covered w l prefix len origin) (vrps-next w x rest e h)) ∙ scan.state

      pub scan_matches : met ≡ Matches → valid ≡ state_in w (vrps w table) prefix len origin
      unfolding onward
      scan_matches m = rw m at step

      pub scan_covers : met ≡ Covers → Scanning w table prefix len origin true rest
      unfolding onward
      scan_covers m = record { good = (good-next w x rest e h scan.good).1; state = rw m at step }

      pub scan_apart : met ≡ Apart → Scanning w table prefix len origin covered rest
      unfolding onward
      scan_apart m = record { good = (good-next w x rest e h scan.good).1; state = rw m at step }
