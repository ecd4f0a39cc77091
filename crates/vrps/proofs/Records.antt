-- One VRP, at any width: bad, covering, allowing, and what it is to a route. Where its parts stand in bytes only `vrp` says.
use Prim.Native.Nat.{ℕ, ◌≤◌, ◌<◌}
use mathlib.Core.Path.{◌≡◌, refl, ◌∙◌}
use mathlib.Core.Bool.{Bool, true, false, not, ◌&&◌, and-true, and-false}
use mathlib.Core.Option.{Option, none, some}
use native.Mathlib.Nat.{le_trans}
use borrow.Author.Tests.{lt-ltb, le-ltb, le-leb, lt-leb, leb-true, leb-false, eq-eqb, ne_eqb, not-false}
use lib.Dec.{leb, ltb, eqb}
use Rattle.std.specs.Prelude.{Some, None}
use Rattle.std.specs.Prelude as std
use Rattle.std.specs.Option.{option_eq}
use Rattle.rules.specs.Origin.{Vrp, bad_vrp, agree, covers, same_as, told_origin, matches}
use Rattle.rules.proofs.Lists.{and_left, and_right, eqb_swap}
use Rattle.vrps.specs.Weighing.{allowed, weighed}
use Rattle.vrps.specs.declared.Weight.TheVariants.{Apart, Covers, Matches}

module _ (w : ℕ) (v : Vrp) where
  -- A length above the maximum; else the maximum decides.
  pub bad_length : v.most < v.len → true ≡ bad_vrp w v
  unfolding bad_vrp
  bad_length h = rw (lt-leb v.len v.most h) refl

  pub bad_most : v.len ≤ v.most → ltb w v.most ≡ bad_vrp w v
  unfolding bad_vrp
  bad_most h = rw (le-leb v.len v.most h) (go (leb v.most w) refl)
    where
      go : (x : Bool) → leb v.most w ≡ x → ltb w v.most ≡ not x
      go true e = le-ltb w v.most (leb-true v.most w e)
      go false e = lt-ltb w v.most (leb-false v.most w e)

  -- A VRP that is not bad is no longer than a prefix.
  pub good_length : bad_vrp w v ≡ false → v.len ≤ w
  unfolding bad_vrp
  good_length g =
      let e = not-false (leb v.len v.most && leb v.most w) g in
      le_trans (leb-true v.len v.most (and_left _ (leb v.most w) e)) (leb-true v.most w (and_right (leb v.len v.most) _ e))

  module _ (prefix len : ℕ) where
    pub covers_shorter : len < v.len → false ≡ covers w v prefix len
    unfolding covers
    covers_shorter h = rw (lt-leb v.len len h) refl

    pub covers-agree : v.len ≤ len → {a : ℕ} {r : Bool} → a ≡ v.prefix → r ≡ agree w v.len a prefix → r ≡ covers w v prefix len
    unfolding covers
    covers-agree h e q = q ∙ rw (e, le-leb v.len len h) refl

    -- What a VRP is to a route, by whether it covers and what it allows.
    module _ (origin : Option ℕ) where
      pub weighed_apart : covers w v prefix len ≡ false → Apart ≡ weighed w v prefix len origin
      unfolding weighed matches
      weighed_apart e = rw e refl

      module _ (e : covers w v prefix len ≡ true) where
        pub weighed-matches : allowed v len origin ≡ true → Matches ≡ weighed w v prefix len origin
        unfolding weighed matches
        weighed-matches f = rw (e, f) refl

        pub weighed-covers : allowed v len origin ≡ false → Covers ≡ weighed w v prefix len origin
        unfolding weighed matches
        weighed-covers f = rw (e, f) refl

-- Whether a VRP allows a route's length and its origin.
module _ (v : Vrp) (len : ℕ) (origin : Option ℕ) where
  pub allowed_longer : v.most < len → false ≡ allowed v len origin
  allowed_longer h = rw (lt-leb len v.most h) refl

  pub allowed_as : len ≤ v.most → {a : ℕ} {r : Bool} → a ≡ v.asn → r ≡ same_as a origin → r ≡ allowed v len origin
  allowed_as h e q = q ∙ rw (e, le-leb len v.most h) refl

-- The ASN of a record and the origin of a route.
pub same_as-zero : (asn : ℕ) (origin : Option ℕ) → asn ≡ 0 → false ≡ same_as asn origin
unfolding same_as
same_as-zero asn none e = refl
same_as-zero asn (some n) e = rw (eq-eqb asn 0 e, and-false) refl

pub same_as_route : (asn n : ℕ) → (asn ≡ 0 → ⊥) → eqb asn n ≡ same_as asn (some n)
unfolding same_as
same_as_route asn n h = rw (ne_eqb asn 0 h, and-true) refl

pub same_as_told : (asn : ℕ) (origin : std.Option ℕ) → (asn ≡ 0 → ⊥) → option_eq eqb origin (Some asn) ≡ same_as asn (told_origin origin)
unfolding same_as told_origin
same_as_told asn None h = refl
same_as_told asn (Some n) h = eqb_swap n asn ∙ same_as_route asn n h
