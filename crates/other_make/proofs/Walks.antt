-- Walks over the attributes of a block: from a place on, one attribute at a time, up to the end or an overrun.
use mathlib.Core.Path.{◌≡◌, refl, sym, ap, ◌∙◌}
use mathlib.Core.Bool.{true, false, cond}
use mathlib.Core.List.{List, [], ◌∷◌}
use Prim.Native.Nat.{ℕ, ◌+◌, ◌-◌, ◌≤◌, ◌<◌}
use native.Mathlib.Omega.{arith}
use lib.Dec.{eqb}
use lib.ListN.{length, take, drop, get_or, length-drop, drop_of_length-le}
use lib.Seq.{drop-drop, get_or-take, get_or-drop}
use borrow.Author.Tests.{eq-eqb, ne_eqb}
use Rattle.rules.specs.Bytes.{is_empty}
use Rattle.rules.specs.Rows.{fit, chop, chop_up_to, whole}
use Rattle.rules.specs.Attributes.{attribute, attributes, attribute_size, encode_one, is_type}
use Rattle.rules.proofs.Lists.{is_empty_not}
use Rattle.rules.proofs.Blocks.{encode-attribute}
use Rattle.octets.proofs.Slices.{part-is}
use Rattle.attributes.specs.Layout.{SizeAt}
use Rattle.attributes.proofs.Faults.{attributes-step, attributes_stop}
use Rattle.attributes.proofs.Sizes.{item-length, item-least}
use Rattle.other_make.specs.Finding.{item_of}

module _ (b : List ℕ) (at : ℕ) where
  -- At the end there is no attribute and no overrun.
  pub walk_end : length b ≤ at → (attributes (drop at b) ≡ []) × (whole (chop attribute_size (drop at b)) ≡ true)
  unfolding attributes whole chop chop_up_to is_empty
  walk_end h = rw (drop_of_length-le b h) (refl, refl)

  module _ {n : ℕ} (e : n ≡ fit attribute_size (drop at b)) where
    -- No attribute fits before it.
    pub walk_torn : at < length b → n ≡ 0 → (attributes (drop at b) ≡ []) × (whole (chop attribute_size (drop at b)) ≡ false)
    walk_torn h z =
        let s = attributes_stop (drop at b) (sym e ∙ z) in
        (s.0, s.1 ∙ is_empty_not (drop at b) (omega (arith, length-drop at b)))

    module _ (z : n ≡ 0 → ⊥) where
      -- One that fits, as `&b[at..at + n]` lends it, and those after it.
      pub walk_next : (attributes (drop at b) ≡ attribute (take (at + n - at) (drop at b)) ∷ attributes (drop (at + n) b))
          × (whole (chop attribute_size (drop at b)) ≡ whole (chop attribute_size (drop (at + n) b)))
      walk_next =
          let s = attributes-step (drop at b) e (omega (arith, item-least (drop at b) e z)) in
          rw (part-is b at n, ← drop-drop n at b) s

      -- Its type is its second byte, and its bytes are the part.
      pub walk_type : (attribute (take (at + n - at) (drop at b))).type ≡ get_or b (at + 1) 0
      unfolding attribute
      walk_type =
          rw (part-is b at n) (get_or-take n (drop at b) 1 0 (omega (arith, item-least (drop at b) e z)) ∙ get_or-drop at b 1 0)

      pub walk_bytes : encode_one (attribute (take (at + n - at) (drop at b))) ≡ take (at + n - at) (drop at b)
      walk_bytes = encode-attribute (take (at + n - at) (drop at b)) (rw (part-is b at n) (omega (arith, item-length (drop at b) e z, item-least (drop at b) e z)))

-- ---- Counting

-- So many attributes are passed, and what is to come is the rest.
pub record Counting (b : List ℕ) (at passed : ℕ) : Type 0 where
  pub few : passed ≤ at
  pub within : at ≤ length b
  pub total : length (attributes b) ≡ passed + length (attributes (drop at b))
  pub ends : whole (chop attribute_size b) ≡ whole (chop attribute_size (drop at b))

pub counting_start : (b : List ℕ) → Counting b 0 0
counting_start b = record { few = omega arith; within = omega arith; total = omega arith; ends = refl }

module _ {b : List ℕ} {at passed : ℕ} (w : Counting b at passed) where
  pub counting_end : length b ≤ at → (whole (chop attribute_size b) ≡ true) × (passed ≡ length (attributes b))
  counting_end h = let l = walk_end b at h in (w.ends ∙ l.1, omega (arith, w.total, ap length l.0))

  module _ {n : ℕ} (e : n ≡ fit attribute_size (drop at b)) where
    pub counting_torn : at < length b → n ≡ 0 → whole (chop attribute_size b) ≡ false
    counting_torn h z = w.ends ∙ (walk_torn b at e h z).1

  pub counting_next : {n : ℕ} → SizeAt b at n → (n ≡ 0 → ⊥) → Counting b (at + n) (passed + 1)
  counting_next sized z =
      let l = walk_next b at sized.is z in
      record {
        few = omega (arith, w.few, item-least (drop at b) sized.is z);
        within = sized.within z;
        total = omega (arith, w.total, ap length l.0);
        ends = w.ends ∙ l.1;
      }

-- ---- Seeking a type

-- The first of a type is to come, or is none.
pub record Seeking (t : ℕ) (b : List ℕ) (at : ℕ) : Type 0 where
  pub within : at ≤ length b
  pub same : item_of t (attributes (drop at b)) ≡ item_of t (attributes b)

pub seeking_start : (t : ℕ) (b : List ℕ) → Seeking t b 0
seeking_start t b = record { within = omega arith; same = refl }

module _ {t : ℕ} {b : List ℕ} {at : ℕ} (w : Seeking t b at) where
  pub seeking_end : length b ≤ at → [] ≡ item_of t (attributes b)
  unfolding item_of
  seeking_end h = rw (walk_end b at h).0 at w.same

  module _ {n : ℕ} (e : n ≡ fit attribute_size (drop at b)) where
    pub seeking_torn : at < length b → n ≡ 0 → [] ≡ item_of t (attributes b)
    unfolding item_of
    seeking_torn h z = rw (walk_torn b at e h z).0 at w.same

    module _ (z : n ≡ 0 → ⊥) where
      one : item_of t (attributes b) ≡ cond (eqb (get_or b (at + 1) 0) t) (take (at + n - at) (drop at b)) (item_of t (attributes (drop (at + n) b)))
      unfolding item_of is_type
      one = sym w.same ∙ rw ((walk_next b at e z).0, walk_bytes b at e z, walk_type b at e z) refl

      pub seeking_found : get_or b (at + 1) 0 ≡ t → take (at + n - at) (drop at b) ≡ item_of t (attributes b)
      seeking_found q = sym (one ∙ rw (eq-eqb (get_or b (at + 1) 0) t q) refl)

      pub seeking_next : (get_or b (at + 1) 0 ≡ t → ⊥) → at + n ≤ length b → Seeking t b (at + n)
      seeking_next q h = record { within = h; same = sym (one ∙ rw (ne_eqb (get_or b (at + 1) 0) t q) refl) }
