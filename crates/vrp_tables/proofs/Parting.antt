-- A table scanned in parts: the state of what has been passed, by the law of the state over parts. Over any width.
use Prim.Native.Nat.{ℕ, ◌+◌, ◌*◌, ◌%◌, ◌<◌, min}
use mathlib.Core.Path.{◌≡◌, refl, sym, ap, ◌∙◌}
use mathlib.Core.Logic.{◌⊎◌, inl, inr}
use mathlib.Core.Bool.{Bool, true, false, cond, or-true}
use mathlib.Core.List.{List, [], ◌∷◌, ◌++◌, flatten, append-nil, append_assoc}
use mathlib.Core.Option.{Option}
use native.Mathlib.Nat.{zero-mod, add-mod, mul-mod_left}
use native.Mathlib.Omega.{arith}
use lib.ListN.{length, length-append}
use Rattle.rules.specs.Bytes.{exists, one_of}
use Rattle.rules.specs.Settings.{valid, not_found, invalid}
use Rattle.rules.specs.Origin.{Vrp, vrp_size, vrps, bad_vrp, covers, matches, state_in, state_over}
use Rattle.rules.proofs.Lists.{neither, exists-append}
use Rattle.rules.proofs.States.{state_over_lem}
use Rattle.vrp_tables.specs.Scan.{GoodTable}
use Rattle.vrp_tables.proofs.Scans.{size_pos, vrps-none, vrps-short, vrps-append}

module _ (w prefix len : ℕ) (origin : Option ℕ) where
  abbrev found : List Vrp → ℕ
  found l = state_in w l prefix len origin

  -- The law at two parts.
  two : (l m : List Vrp) → found (l ++ m) ≡ state_over (found l ∷ found m ∷ [])
  unfolding flatten
  two l m = ap (λ (r : List Vrp). found (l ++ r)) (sym (append-nil m)) ∙ sym (state_over_lem w prefix len origin (l ∷ m ∷ []))

  -- A state that is not valid is invalid or not found.
  other : (l : List Vrp) → (found l ≡ valid → ⊥) → (found l ≡ invalid) ⊎ (found l ≡ not_found)
  unfolding state_in
  other l = go (exists (λ v. matches w v prefix len origin) l) (exists (λ v. covers w v prefix len) l)
    where
      go : (m c : Bool) → (cond m valid (cond c invalid not_found) ≡ valid → ⊥)
          → (cond m valid (cond c invalid not_found) ≡ invalid) ⊎ (cond m valid (cond c invalid not_found) ≡ not_found)
      go true c n = absurd (n refl)
      go false true n = inl refl
      go false false n = inr refl

  -- One part more: it is valid, or it leaves what was found, or it is invalid.
  pub more-valid : (l m r : List Vrp) → found m ≡ valid → valid ≡ found (l ++ (m ++ r))
  unfolding state_over one_of exists
  more-valid l m r e = sym (two l (m ++ r) ∙ rw (two m r, e, or-true) refl)

  module _ (l m : List Vrp) (p : found l ≡ valid → ⊥) (q : found m ≡ valid → ⊥) where
    pub more-found : found m ≡ not_found → found l ≡ found (l ++ m)
    unfolding state_over one_of exists
    more-found e = sym (two l m ∙ go (other l p))
      where
        go : (found l ≡ invalid) ⊎ (found l ≡ not_found) → state_over (found l ∷ found m ∷ []) ≡ found l
        go (inl f) = rw (f, e) refl
        go (inr f) = rw (f, e) refl

    pub more-other : (found m ≡ not_found → ⊥) → found m ≡ found (l ++ m)
    unfolding state_over one_of exists
    more-other n = sym (two l m ∙ go (other l p) (other m q))
      where
        go : (found l ≡ invalid) ⊎ (found l ≡ not_found) → (found m ≡ invalid) ⊎ (found m ≡ not_found) → state_over (found l ∷ found m ∷ []) ≡ found m
        go (inl f) (inl e) = rw (f, e) refl
        go (inr f) (inl e) = rw (f, e) refl
        go x (inr e) = absurd (n e)

-- A full part is of whole records.
pub part_size : (w : ℕ) {n : ℕ} → n ≡ 1024 * vrp_size w → n % vrp_size w ≡ 0
part_size w e = rw e (mul-mod_left 1024 (vrp_size w))

-- A table of which some bytes are left to scan, part by part: the state of the records before them is what was found, and not valid.
pub record Parted (w : ℕ) (table : List ℕ) (prefix len : ℕ) (origin : Option ℕ) (state : ℕ) (rest : List ℕ) : Type 0 where
  pub before : List ℕ
  pub whole : table ≡ before ++ rest
  pub even : 0 < length rest → length before % vrp_size w ≡ 0
  pub is : state ≡ state_in w (vrps w before) prefix len origin
  pub other : state ≡ valid → ⊥

-- Bytes that are followed by others only where they are whole records.
vrps-parts : (w : ℕ) (x rest : List ℕ) → (0 < length rest → length x % vrp_size w ≡ 0) → vrps w (x ++ rest) ≡ vrps w x ++ vrps w rest
vrps-parts w x [] h = rw (append-nil x, vrps-none w, append-nil (vrps w x)) refl
vrps-parts w x (b ∷ rest) h = vrps-append w x (b ∷ rest) (h (omega arith))

module _ {w : ℕ} {table : List ℕ} {prefix len : ℕ} {origin : Option ℕ} where
  pub parted_start : {rest : List ℕ} → rest ≡ table → Parted w table prefix len origin not_found rest
  unfolding state_in exists
  parted_start e =
      record { before = []; whole = sym e; even = λ h. zero-mod (vrp_size w); is = rw (vrps-none w) refl; other = λ e. absurd (omega (arith, e)) }

  module _ {state : ℕ} {s : List ℕ} (p : Parted w table prefix len origin state s) where
    -- No record is left.
    pub parted_end : length s ≡ 0 → state ≡ state_in w (vrps w table) prefix len origin
    parted_end h = p.is ∙ ap (λ (l : List Vrp). state_in w l prefix len origin) (sym (ap (vrps w) p.whole ∙ none))
      where
        none : vrps w (p.before ++ s) ≡ vrps w p.before
        none = vrps-parts w p.before s (λ n. absurd (omega arith)) ∙ rw (vrps-short w s (omega (arith, size_pos w))) (append-nil (vrps w p.before))

    -- A part is left, of `full` bytes or up to the end of the table.
    module _ (full : ℕ) (z : full % vrp_size w ≡ 0) (x rest : List ℕ) (e : s ≡ x ++ rest) (h : length x ≡ min full (length s)) (some : 0 < length s) where
      sizes : length s ≡ length x + length rest
      sizes = ap length e ∙ length-append x rest

      even-part : 0 < length rest → length x % vrp_size w ≡ 0
      even-part l = let q : length x ≡ full = omega (arith, sizes) in rw q z

      all : vrps w table ≡ vrps w p.before ++ (vrps w x ++ vrps w rest)
      all =
          ap (vrps w) p.whole ∙ vrps-append w p.before s (p.even some)
          ∙ ap (λ (l : List Vrp). vrps w p.before ++ l) (ap (vrps w) e ∙ vrps-parts w x rest even-part)

      pub parted_good : GoodTable w table → GoodTable w x
      parted_good g =
          let a = neither (exists (bad_vrp w) (vrps w p.before)) _ (sym (exists-append (bad_vrp w) (vrps w p.before) _) ∙ sym (ap (exists (bad_vrp w)) all) ∙ g) in
          (neither (exists (bad_vrp w) (vrps w x)) _ (sym (exists-append (bad_vrp w) (vrps w x) _) ∙ a.1)).0

      module _ {found : ℕ} (q : found ≡ state_in w (vrps w x) prefix len origin) where
        pub parted_valid : found ≡ valid → valid ≡ state_in w (vrps w table) prefix len origin
        parted_valid v =
            more-valid w prefix len origin (vrps w p.before) (vrps w x) _ (sym q ∙ v) ∙ sym (ap (λ (l : List Vrp). state_in w l prefix len origin) all)

        module _ (n : found ≡ valid → ⊥) where
          step : {more : ℕ} → more ≡ state_in w (vrps w p.before ++ vrps w x) prefix len origin → (more ≡ valid → ⊥) → Parted w table prefix len origin more rest
          step f o =
              record {
                before = p.before ++ x;
                whole = p.whole ∙ ap (λ (l : List ℕ). p.before ++ l) e ∙ sym (append_assoc p.before x rest);
                even = λ l. rw (length-append p.before x, add-mod (length p.before) (length x) (vrp_size w), p.even some, even-part l) (zero-mod (vrp_size w));
                is = f ∙ sym (ap (λ (l : List Vrp). state_in w l prefix len origin) (vrps-append w p.before x (p.even some)));
                other = o;
              }

          pub parted_found : found ≡ not_found → Parted w table prefix len origin state rest
          parted_found f = step (p.is ∙ more-found w prefix len origin (vrps w p.before) (vrps w x) (λ v. p.other (p.is ∙ v)) (λ v. n (q ∙ v)) (sym q ∙ f)) p.other

          pub parted_other : (found ≡ not_found → ⊥) → Parted w table prefix len origin found rest
          parted_other f = step (q ∙ more-other w prefix len origin (vrps w p.before) (vrps w x) (λ v. p.other (p.is ∙ v)) (λ v. n (q ∙ v)) (λ v. f (q ∙ v))) n
