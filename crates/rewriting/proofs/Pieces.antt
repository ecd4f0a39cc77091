-- What the parts of a plan come to, case by case as the writer stores them: the new attributes, and the bytes from one place
-- to another.
use Prim.Native.Nat.{ℕ, ◌-◌, ◌≤◌, ◌<◌}
use mathlib.Core.Path.{◌≡◌, refl}
use mathlib.Core.Logic.{inl, inr}
use mathlib.Core.Bool.{Bool, true, false, cond, ◌&&◌}
use mathlib.Core.List.{List, [], ◌∷◌, ◌++◌}
use native.Mathlib.Omega.{arith}
use borrow.Author.Tests.{eq-eqb, ne_eqb, lt-ltb, le-ltb, le-leb, lt-leb}
use lib.Dec.{eqb}
use lib.ListN.{take, drop}
use Rattle.rules.specs.Bytes.{part, bytes4}
use Rattle.rules.specs.Attributes.{encode_one, communities_type}
use Rattle.rules.specs.Changes.{tag, new_attribute}
use Rattle.communities.specs.Tags.{drop_test}
use Rattle.rewriting.specs.declared.plan.Plan.{Plan}
use Rattle.std.specs.Prelude.{Option, Some, None}
use Rattle.rewriting.specs.Plan.{community_bytes, new_tag_bytes, new_otc_bytes, item, piece, Clear, Leaving}

-- A new tag: none where a community is left or no state is to be told.
pub new_tag-left : (flags left state : ℕ) → (left ≡ 0 → ⊥) → new_tag_bytes flags left state ≡ []
unfolding new_tag_bytes
new_tag-left flags left state h = rw (ne_eqb left 0 h)

pub new_tag_untold : (flags left state : ℕ) → 2 < state → new_tag_bytes flags left state ≡ []
unfolding new_tag_bytes
new_tag_untold flags left state h = rw (lt-leb state 2 h) (none (eqb left 0))
  where
    none : (x : Bool) → cond (x && false) (encode_one (new_attribute flags communities_type (tag state))) [] ≡ []
    none true = refl
    none false = refl

pub new_tag-is : (flags left state : ℕ) → left ≡ 0 → state ≤ 2
    → new_tag_bytes flags left state ≡ flags ∷ 16 ∷ 8 ∷ 0x43 ∷ 0 ∷ 0 ∷ 0 ∷ 0 ∷ 0 ∷ 0 ∷ state ∷ []
unfolding new_tag_bytes encode_one new_attribute tag
new_tag-is flags left state e h = rw (eq-eqb left 0 e, le-leb state 2 h)

-- A new OTC: none where no AS is to be named.
pub new_otc-none : (flags : ℕ) {otc : Option ℕ} → otc ≡ None → new_otc_bytes flags otc ≡ []
unfolding new_otc_bytes
new_otc-none flags e = rw e refl

pub new_otc-is : (flags : ℕ) {asn : ℕ} {otc : Option ℕ} → otc ≡ Some asn → new_otc_bytes flags otc ≡ (flags ∷ 35 ∷ 4 ∷ []) ++ bytes4 asn
unfolding new_otc_bytes encode_one new_attribute bytes4
new_otc-is flags e = rw e refl

-- The bytes from one place to another.
module _ (b : List ℕ) (p : Plan) (from to : ℕ) where
  -- They are as they stand where no communities attribute begins in them.
  pub piece-after : p.communities < from → piece b p from to ≡ take (to - from) (drop from b)
  unfolding piece part
  piece-after h = rw (lt-leb from p.communities h)

  pub piece-before : from ≤ p.communities → to ≤ p.communities → piece b p from to ≡ take (to - from) (drop from b)
  unfolding piece part
  piece-before f h = rw (le-leb from p.communities f, le-ltb p.communities to h)

  -- Else they are what stands before it, the attribute as it goes out, and what stands after it.
  pub piece-split : from ≤ p.communities → p.communities < to
      → piece b p from to
      ≡ take (p.communities - from) (drop from b)
      ++ (community_bytes (drop_test p.dropping) p.tag (take (p.rest - p.communities) (drop p.communities b)) ++ take (to - p.rest) (drop p.rest b))
  unfolding piece item part
  piece-split f h = rw (le-leb from p.communities f, lt-ltb p.communities to h)

-- The bytes up to where the attribute ends are the attribute.
pub item-leaving : (b : List ℕ) (p : Plan) → Leaving (drop_test p.dropping) (item b p) p.left → {end : ℕ} → p.rest ≡ end
    → Leaving (drop_test p.dropping) (take (end - p.communities) (drop p.communities b)) p.left
unfolding item part
item-leaving b p w e = rw (← e) w

-- A place past the attribute's beginning that lies not inside it lies not before its end.
pub clear_past : (p : Plan) (at : ℕ) → Clear p at → p.communities < at → p.rest ≤ at
clear_past p at (inl l) h = absurd (omega arith)
clear_past p at (inr r) h = r
