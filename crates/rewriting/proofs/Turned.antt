-- Each attribute as it goes out, apart from new ones: communities without their tags and with a tag last, others as they are.
use mathlib.Core.Path.{◌≡◌, refl, sym, ◌∙◌, ap}
use mathlib.Core.Bool.{Bool, true, false, cond, not, false≢true}
use mathlib.Core.List.{List, [], ◌∷◌, ◌++◌, map, flat_map, append_assoc, append-nil}
use Prim.Native.Nat.{ℕ, ◌+◌, ◌≤◌}
use native.Mathlib.Omega.{arith}
use lib.Dec.{leb, eqb}
use lib.ListN.{length, length-append}
use borrow.Author.Tests.{eqb-true, le-leb, leb-true, leb-false}
use Rattle.rules.specs.Bytes.{is_empty, exists, bytes2}
use Rattle.rules.specs.Attributes.{Attribute, long, is_type, has, communities_type}
use Rattle.rules.specs.Changes.{tag, with_value, unless_empty, drop_from, drop_in, drop_communities, with_tag}
use Rattle.rules.proofs.Values.{anew, long-set}
use Rattle.rules.proofs.Dropping.{left_in, left}
use Rattle.communities.specs.Tags.{tag_bytes}
use Rattle.rewriting.specs.Plan.{turned, turned_all}
use Rattle.rewriting.proofs.Fronts.{front, back}

-- A value changed twice, the second time no shorter, is changed once.
with_value-twice : (a : Attribute) (v w : List ℕ) → length v ≤ length w → with_value (with_value a v) w ≡ with_value a w
unfolding with_value
with_value-twice a v w h = go (long a.flags) (leb (length v) 255) (leb (length w) 255) refl refl refl
  where
    go : (x y z : Bool) → long a.flags ≡ x → leb (length v) 255 ≡ y → leb (length w) 255 ≡ z
        → with_value (cond x (record { flags = a.flags; type = a.type; len = bytes2 (length v); value = v })
        (cond y (record { flags = a.flags; type = a.type; len = length v ∷ []; value = v })
        (record { flags = a.flags + 0x10; type = a.type; len = bytes2 (length v); value = v }))) w
        ≡ cond x (record { flags = a.flags; type = a.type; len = bytes2 (length w); value = w })
        (cond z (record { flags = a.flags; type = a.type; len = length w ∷ []; value = w })
        (record { flags = a.flags + 0x10; type = a.type; len = bytes2 (length w); value = w }))
    go true y z e f g = rw e refl
    go false true z e f g = rw (e, g) refl
    go false false true e f g = absurd (omega (arith, leb-false (length v) 255 f, leb-true (length w) 255 g))
    go false false false e f g = rw (long-set a.flags e) refl

tag-on : (s : ℕ) (z : Attribute) → is_type communities_type z ≡ true → with_tag s z ≡ with_value z (z.value ++ tag s)
unfolding with_tag
tag-on s z e = rw e refl

tag-with_value : (s : ℕ) (a : Attribute) (v : List ℕ) → is_type communities_type a ≡ true → with_tag s (with_value a v) ≡ with_value a (v ++ tag s)
unfolding is_type
tag-with_value s a v e =
    tag-on s (with_value a v) (ap (λ (k : ℕ). eqb k 16) (anew a v).type ∙ e)
    ∙ ap (λ (w : List ℕ). with_value (with_value a v) (w ++ tag s)) (anew a v).value
    ∙ with_value-twice a v (v ++ tag s) (omega (arith, length-append v (tag s)))

-- A list of two parts that is empty has none that is not.
nil_both : (u v : List ℕ) → u ++ v ≡ [] → (u ≡ []) × (v ≡ [])
nil_both [] v e = (refl, e)
nil_both (x ∷ u) v e = let z : ◌≡◌ {A = ℕ} 0 1 = (let l = ap length e in absurd (omega arith)) in absurd (omega arith)

module _ (dropped : List ℕ → Bool) where
  pub turned-append : (state : ℕ) (l m : List Attribute) → turned_all dropped state (l ++ m) ≡ turned_all dropped state l ++ turned_all dropped state m
  unfolding turned_all flat_map
  turned-append state [] m = refl
  turned-append state (a ∷ l) m = rw (turned-append state l m) (sym (append_assoc (turned dropped state a) (turned_all dropped state l) (turned_all dropped state m)))

  -- With no state to tell, this is what dropping the tags leaves.
  pub turned_dropped : (l : List Attribute) → turned_all dropped 3 l ≡ drop_communities dropped l
  unfolding turned_all turned drop_communities drop_in flat_map tag_bytes
  turned_dropped [] = refl
  turned_dropped (a ∷ l) = rw (turned_dropped l) (go (is_type communities_type a) (drop_from dropped a.value))
    where
      go : (x : Bool) (v : List ℕ) → cond x (cond (is_empty v) [] (with_value a (v ++ []) ∷ [])) (a ∷ []) ++ drop_communities dropped l
          ≡ cond x (unless_empty a v) (a ∷ []) ++ drop_communities dropped l
      go true [] = unfold is_empty unless_empty in refl
      go true (y ∷ v) = unfold is_empty unless_empty in rw (append-nil (y ∷ v)) refl
      go false v = refl

  -- With one, it is that and a tag in each.
  pub turned-tagged : (s : ℕ) → s ≤ 2 → (l : List Attribute) → turned_all dropped s l ≡ map (with_tag s) (drop_communities dropped l)
  unfolding turned_all turned drop_communities drop_in flat_map tag_bytes
  turned-tagged s h [] = refl
  turned-tagged s h (a ∷ l) = rw (le-leb s 2 h, turned-tagged s h l) (go (is_type communities_type a) refl (drop_from dropped a.value))
    where
      go : (x : Bool) → is_type communities_type a ≡ x → (v : List ℕ)
          → cond x (cond (is_empty v) [] (with_value a (v ++ tag s) ∷ [])) (a ∷ []) ++ map (with_tag s) (drop_communities dropped l)
          ≡ map (with_tag s) (cond x (unless_empty a v) (a ∷ []) ++ drop_communities dropped l)
      go true e [] = unfold is_empty unless_empty in refl
      go true e (y ∷ v) = unfold is_empty unless_empty in rw (tag-with_value s a (y ∷ v) e) refl
      go false e v = unfold with_tag in rw e refl

  -- ---- Where no community is left

  -- The state that a tag would tell then makes no difference.
  pub turned-bare : (s : ℕ) (l : List Attribute) → left dropped l ≡ [] → turned_all dropped s l ≡ turned_all dropped 3 l
  unfolding turned_all turned flat_map left is_type
  turned-bare s [] e = refl
  turned-bare s (a ∷ l) e =
      let n = nil_both (left_in dropped a) (left dropped l) e in
      rw (turned-bare s l n.1) (go (eqb a.type 16) (drop_from dropped a.value) n.0)
    where
      go : (x : Bool) (v : List ℕ) → cond x v [] ≡ []
          → cond x (cond (is_empty v) [] (with_value a (v ++ tag_bytes s) ∷ [])) (a ∷ []) ++ turned_all dropped 3 l
          ≡ cond x (cond (is_empty v) [] (with_value a (v ++ tag_bytes 3) ∷ [])) (a ∷ []) ++ turned_all dropped 3 l
      go true v z = unfold is_empty in rw z refl
      go false v z = refl

  -- Whether a communities attribute is left.
  pub has_left : (l : List Attribute) → has communities_type (drop_communities dropped l) ≡ not (is_empty (left dropped l))
  unfolding drop_communities drop_in flat_map left is_type has exists
  has_left [] = unfold is_empty in refl
  has_left (a ∷ l) = go (eqb a.type 16) refl (drop_from dropped a.value) (has_left l)
    where
      go : (x : Bool) → eqb a.type 16 ≡ x → (v : List ℕ) → has communities_type (drop_communities dropped l) ≡ not (is_empty (left dropped l))
          → has communities_type (cond x (unless_empty a v) (a ∷ []) ++ drop_communities dropped l) ≡ not (is_empty (cond x v [] ++ left dropped l))
      go true e [] ih = unfold unless_empty in ih
      go true e (y ∷ v) ih = unfold unless_empty is_empty in rw ((anew a (y ∷ v)).type, e) refl
      go false e v ih = rw e ih

  -- ---- Fronts and backs, by a test that communities do not pass

  module _ (p : ℕ → Bool) (h : p 16 ≡ false) (state : ℕ) where
    -- An attribute that passes is no communities attribute, and stays.
    turned-other : (a : Attribute) → p a.type ≡ true → turned dropped state a ≡ a ∷ []
    unfolding turned is_type
    turned-other a q = go (eqb a.type 16) refl
      where
        go : (x : Bool) → eqb a.type 16 ≡ x
            → cond x (cond (is_empty (drop_from dropped a.value)) [] (with_value a (drop_from dropped a.value ++ tag_bytes state) ∷ [])) (a ∷ []) ≡ a ∷ []
        go true e = absurd (false≢true (sym h ∙ (rw (eqb-true a.type 16 e) at q)))
        go false e = refl

    -- One that does not is passed over, whatever becomes of it.
    turned-passed : (a : Attribute) → p a.type ≡ false → (l : List Attribute)
        → (front p (turned dropped state a ++ l) ≡ turned dropped state a ++ front p l) × (back p (turned dropped state a ++ l) ≡ back p l)
    unfolding turned is_type front back
    turned-passed a q l = go (eqb a.type 16) (is_empty (drop_from dropped a.value)) (drop_from dropped a.value ++ tag_bytes state)
      where
        go : (x y : Bool) (v : List ℕ)
            → (front p (cond x (cond y [] (with_value a v ∷ [])) (a ∷ []) ++ l) ≡ cond x (cond y [] (with_value a v ∷ [])) (a ∷ []) ++ front p l)
            × (back p (cond x (cond y [] (with_value a v ∷ [])) (a ∷ []) ++ l) ≡ back p l)
        go true true v = (refl, refl)
        go true false v = let e : p (with_value a v).type ≡ false = ap p (anew a v).type ∙ q in (rw e refl, rw e refl)
        go false y v = (rw q refl, rw q refl)

    pub turned-front : (l : List Attribute) → front p (turned_all dropped state l) ≡ turned_all dropped state (front p l)
    unfolding turned_all flat_map front
    turned-front [] = refl
    turned-front (a ∷ l) = go (p a.type) refl (turned-front l)
      where
        go : (x : Bool) → p a.type ≡ x → front p (turned_all dropped state l) ≡ turned_all dropped state (front p l)
            → front p (turned dropped state a ++ turned_all dropped state l) ≡ turned_all dropped state (cond x [] (a ∷ front p l))
        go true q ih = rw (turned-other a q, q) refl
        go false q ih = (turned-passed a q (turned_all dropped state l)).0 ∙ rw ih refl

    pub turned-back : (l : List Attribute) → back p (turned_all dropped state l) ≡ turned_all dropped state (back p l)
    unfolding turned_all flat_map back
    turned-back [] = refl
    turned-back (a ∷ l) = go (p a.type) refl (turned-back l)
      where
        go : (x : Bool) → p a.type ≡ x → back p (turned_all dropped state l) ≡ turned_all dropped state (back p l)
            → back p (turned dropped state a ++ turned_all dropped state l) ≡ turned_all dropped state (cond x (a ∷ l) (back p l))
        go true q ih = rw (turned-other a q, q) refl
        go false q ih = (turned-passed a q (turned_all dropped state l)).1 ∙ ih

  -- Only the tag's bytes matter of the state.
  pub turned_same : (s t : ℕ) → tag_bytes s ≡ tag_bytes t → (l : List Attribute) → turned_all dropped s l ≡ turned_all dropped t l
  unfolding turned_all turned flat_map
  turned_same s t e [] = refl
  turned_same s t e (a ∷ l) = rw (e, turned_same s t e l) refl
