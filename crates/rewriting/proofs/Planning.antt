-- How the numbers of a plan are found in a block that has been read.
use mathlib.Core.Path.{◌≡◌, refl, sym, ◌∙◌, ap, subst}
use mathlib.Core.Bool.{Bool, true, false, cond, ◌||◌, true≢false}
use mathlib.Core.List.{List, [], ◌∷◌, ◌++◌, append-nil, flat_map}
use Prim.Native.Nat.{ℕ, ◌+◌, ◌-◌, ◌≤◌}
use native.Mathlib.Omega.{arith}
use lib.Dec.{ltb, eqb}
use lib.ListN.{length, drop, get_or, length-append, length-drop, length-take, drop_of_length-le}
use lib.Seq.{drop-append_seam}
use borrow.Author.Tests.{eqb-true, eqb-false}
use Rattle.rules.specs.Bytes.{exists, part}
use Rattle.rules.specs.Rows.{fit}
use Rattle.rules.specs.Attributes.{Attribute, attribute, attributes, attribute_size, length_bytes, encode, encode_one, is_type, has, has_otc, value_of, readable}
use Rattle.rules.specs.Changes.{drop_from, rewritten}
use Rattle.rules.proofs.Rows.{fit-le, fit-some}
use Rattle.rules.proofs.Blocks.{All, Framed, all_map, size-front, encoded_pos}
use Rattle.rules.proofs.Parts.{count, size, encode-append}
use Rattle.rules.proofs.Readable.{Good, read-good}
use Rattle.rules.proofs.Communities.{drop_nil, drop_le}
use Rattle.rules.proofs.Dropping.{left}
use Rattle.settings.specs.Told.{told_tag, told_otc}
use Rattle.attributes.specs.Layout.{place_of, SizeAt, value_at, layout}
use Rattle.attributes.specs.declared.layout.Layout.{Layout}
use Rattle.attributes.proofs.Places.{place-le}
use Rattle.attributes.proofs.Found.{value_of_lem, has_of}
use Rattle.communities.specs.Tags.{drop_test}
use Rattle.std.specs.Prelude.{Option, None}
use Rattle.communities.specs.declared.tags.Dropping.{Dropping}
use Rattle.rewriting.specs.Plan.{turned_all, left_of, community_bytes, new_tag_bytes, new_otc_bytes, item, emitted, Leaving, PlanOk, Planned, ReadBlock, Sizing, turned_size}
use Rattle.rewriting.specs.declared.plan.Plan.{Plan}
use Rattle.rewriting.proofs.Found.{past_communities, turned_none, Found, found, place_found, place_none, past-none, framed_middle, one_only, left-none, left_one}
use Rattle.rewriting.proofs.Planned.{PlanOf, emitted-is, emitted-size, plan_ok, turned_size_lem}

place-within : (l : List Attribute) → place_of 16 l ≤ size l
unfolding place_of
place-within l = place-le (λ k. eqb k 16) l

-- ---- The communities attribute of a readable block

module _ (l : List Attribute) (framed : All Framed l) where
  -- The size of the attribute at its place is its own, or 0.
  fit_found : (f : Found l) → fit attribute_size (drop (place_of 16 l) (encode l)) ≡ length (encode_one f.here)
  unfolding encode flat_map
  fit_found f =
      let c : place_of 16 l ≡ length (encode f.before) = ap (place_of 16) f.whole ∙ (place_found f.before f.here f.after f.none f.type).0 in
      let b : encode l ≡ encode f.before ++ (encode_one f.here ++ encode f.after) = ap encode f.whole ∙ encode-append f.before (f.here ∷ f.after) in
      let h = framed_middle f.before f.here f.after (subst (All Framed) f.whole framed) in
      let e = size-front f.here h (encode f.after) in
      rw (c, b, drop-append_seam (encode f.before) (encode_one f.here ++ encode f.after))
      (fit-some attribute_size (encode_one f.here ++ encode f.after) (omega (arith, e, length-append (encode_one f.here) (encode f.after))) ∙ e)

  fit-absent : has 16 l ≡ false → fit attribute_size (drop (place_of 16 l) (encode l)) ≡ 0
  fit-absent e =
      let n = rw (append-nil l) at (place_none l [] e) in
      rw (drop_of_length-le (encode l) n) (let k = fit-le attribute_size [] in omega arith)

  pub rest-is : place_of 16 l + fit attribute_size (drop (place_of 16 l) (encode l)) ≡ past_communities l
  rest-is = go (has 16 l) refl
    where
      go : (x : Bool) → has 16 l ≡ x → place_of 16 l + fit attribute_size (drop (place_of 16 l) (encode l)) ≡ past_communities l
      go true e =
          let f = found l e in
          let p = place_found f.before f.here f.after f.none f.type in
          omega (arith, fit_found f, ap (place_of 16) f.whole ∙ p.0, ap past_communities f.whole ∙ p.1)
      go false e = omega (arith, fit-absent e, past-none l e, rw (append-nil l) at (place_none l [] e), place-within l)

  pub absent : fit attribute_size (drop (place_of 16 l) (encode l)) ≡ 0 → has 16 l ≡ false
  absent z = go (has 16 l) refl
    where
      go : (x : Bool) → has 16 l ≡ x → has 16 l ≡ false
      go true e = let f = found l e in absurd (omega (arith, fit_found f, encoded_pos f.here))
      go false e = e

  present : (fit attribute_size (drop (place_of 16 l) (encode l)) ≡ 0 → ⊥) → Found l
  present z = go (has 16 l) refl
    where
      go : (x : Bool) → has 16 l ≡ x → Found l
      go true e = found l e
      go false e = absurd (z (fit-absent e))

-- ---- What is left of it

value_found : (x : List Attribute) (a : Attribute) (y : List Attribute) → has 16 x ≡ false → eqb a.type 16 ≡ true → value_of 16 (x ++ (a ∷ y)) ≡ a.value
unfolding value_of has exists is_type
value_found [] a y e t = rw t refl
value_found (z ∷ x) a y e t = go (eqb z.type 16) e (value_found x a y)
  where
    go : (q : Bool) → q || has 16 x ≡ false → (has 16 x ≡ false → eqb a.type 16 ≡ true → value_of 16 (x ++ (a ∷ y)) ≡ a.value)
        → cond q z.value (value_of 16 (x ++ (a ∷ y))) ≡ a.value
    go true e ih = absurd (true≢false e)
    go false e ih = ih e t

value-absent : (l : List Attribute) → has 16 l ≡ false → value_of 16 l ≡ []
unfolding value_of has exists is_type
value-absent [] e = refl
value-absent (a ∷ l) e = go (eqb a.type 16) e (value-absent l)
  where
    go : (q : Bool) → q || has 16 l ≡ false → (has 16 l ≡ false → value_of 16 l ≡ []) → cond q a.value (value_of 16 l) ≡ []
    go true e ih = absurd (true≢false e)
    go false e ih = ih e

pub left-value : (dropped : List ℕ → Bool) (l : List Attribute) → count 16 l ≤ 1 → left dropped l ≡ drop_from dropped (value_of 16 l)
left-value dropped l once = go (has 16 l) refl
  where
    go : (x : Bool) → has 16 l ≡ x → left dropped l ≡ drop_from dropped (value_of 16 l)
    go true e =
        let f = found l e in
        ap (left dropped) f.whole ∙ left_one dropped f.before f.here f.after f.none f.type (one_only f once)
        ∙ sym (ap (drop_from dropped) (ap (value_of 16) f.whole ∙ value_found f.before f.here f.after f.none f.type))
    go false e = left-none dropped l e ∙ sym (ap (drop_from dropped) (value-absent l e) ∙ drop_nil dropped)

-- What is left of an attribute is no longer than the attribute.
left_le : (dropped : List ℕ → Bool) (a : List ℕ) → length (left_of dropped a) ≤ length a
unfolding left_of attribute
left_le dropped a =
    let n = length_bytes (get_or a 0 0) in
    omega (arith, drop_le dropped (drop n (drop 2 a)), length-drop n (drop 2 a), length-drop 2 a)

part-size : (at k : ℕ) (b : List ℕ) → length (part at k b) ≤ k
unfolding part
part-size at k b = omega (arith, length-take k (drop at b))

-- ---- The plan

module _ {b : List ℕ} {lay : Layout} (read : ReadBlock b lay) (dropping : Dropping) (flags s : ℕ) (asn : Option ℕ)
    {k : ℕ} (sized : SizeAt b lay.communities k) {n : ℕ} (leftIs : n ≡ length (drop_from (drop_test dropping) (value_at lay.communities b)))
    {otc : Option ℕ} (otcIs : otc ≡ cond (ltb lay.otc (length b)) None asn) where
  r : readable b ≡ true
  r = read.clean

  e : lay ≡ layout (attributes b)
  e = read.is

  good : Good (attributes b)
  good = (read-good b r).1

  bytes : encode (attributes b) ≡ b
  bytes = (read-good b r).0

  framed : All Framed (attributes b)
  framed = all_map (λ a h. h.0) (attributes b) good.each

  place_is : lay.communities ≡ place_of 16 (attributes b)
  unfolding layout
  place_is = ap (λ (z : Layout). z.communities) e

  size_is : k ≡ fit attribute_size (drop (place_of 16 (attributes b)) (encode (attributes b)))
  size_is = sized.is ∙ rw (place_is, bytes) refl

  abbrev planned : ℕ → Plan
  planned size = record { communities = lay.communities; rest = lay.communities + k; left = n; new_tag = lay.new_tag; new_otc = lay.new_otc; size = size; dropping = dropping; flags = flags; tag = s; otc = otc }

  plan_of : (z : ℕ) → PlanOf (attributes b) dropping flags s asn (planned z)
  unfolding layout
  plan_of z =
      record {
        communities = place_is;
        rest = omega (arith, place_is, size_is, rest-is (attributes b) framed);
        left = leftIs ∙ ap (λ (v : List ℕ). length (drop_from (drop_test dropping) v)) (rw place_is (value_of_lem 16 b r)) ∙ ap length (sym (left-value (drop_test dropping) (attributes b) (good.once 16)));
        new_tag = ap (λ (z : Layout). z.new_tag) e;
        new_otc = ap (λ (z : Layout). z.new_otc) e;
        dropping_is = refl;
        flags_is = refl;
        tag = refl;
        otc = otcIs ∙ rw (ap (λ (z : Layout). z.otc) e) (unfold has_otc in rw (has_of 35 b r) refl);
      }

  ok : (z : ℕ) → PlanOk b (planned z)
  ok z = subst (λ (x : List ℕ). PlanOk x (planned z)) bytes (plan_ok good (plan_of z) (rw bytes read.small))

  item-at : (z : ℕ) → item b (planned z) ≡ part lay.communities k b
  unfolding item
  item-at z = let d : lay.communities + k - lay.communities ≡ k = omega arith in rw d refl

  leaving : (k ≡ 0 → ⊥) → Leaving (drop_test dropping) (part lay.communities k b) n
  leaving z = subst (λ (a : List ℕ). Leaving (drop_test dropping) a n) (item-at 0) ((ok 0).leaving (omega (arith, sized.within z)))

  pub plan_left : (k ≡ 0 → ⊥) → n ≡ length (left_of (drop_test dropping) (part lay.communities k b))
  plan_left z = (leaving z).is

  pub plan_sizing : Sizing b lay.communities k n
  plan_sizing = record { within = sized.within; whole = λ z. (leaving z).whole; few = few; small = read.small }
    where
      few : (k ≡ 0 → ⊥) → n ≤ k
      few z = omega (arith, (leaving z).is, left_le (drop_test dropping) (part lay.communities k b), part-size lay.communities k b)

  pub plan_rest : lay.communities + k ≤ length b
  plan_rest = (ok 0).to

  turned-is : (z : ℕ) → size (turned_all (drop_test dropping) s (attributes b)) ≡ turned_size (drop_test dropping) b lay.communities k s
  unfolding turned_size
  turned-is z = go (eqb k 0) refl
    where
      go : (x : Bool) → eqb k 0 ≡ x
          → size (turned_all (drop_test dropping) s (attributes b)) ≡ cond x (length b) (length b - k + length (community_bytes (drop_test dropping) s (part lay.communities k b)))
      go true q =
          let z : fit attribute_size (drop (place_of 16 (attributes b)) (encode (attributes b))) ≡ 0 = sym size_is ∙ eqb-true k 0 q in
          ap size (turned_none (drop_test dropping) s (attributes b) (absent (attributes b) framed z)) ∙ ap length bytes
      go false q =
          let f = present (attributes b) framed (λ z. eqb-false k 0 q (size_is ∙ z)) in
          let w : k ≡ length (encode_one f.here) = size_is ∙ fit_found (attributes b) framed f in
          let c : length (community_bytes (drop_test dropping) s (item (encode (attributes b)) (planned z))) ≡ length (community_bytes (drop_test dropping) s (part lay.communities k b)) = rw (bytes, item-at z) refl in
          omega (arith, turned_size_lem good (plan_of z) f, w, c, ap length bytes, sized.within (eqb-false k 0 q))

  pub plan_made : {z : ℕ} → z ≡ turned_size (drop_test dropping) b lay.communities k s + length (new_tag_bytes flags n s) + length (new_otc_bytes flags otc)
      → Planned b dropping flags s asn (planned z)
  plan_made {z} q =
      record {
        ok = ok z;
        is = subst (λ (x : List ℕ). emitted x (planned z) ≡ encode (rewritten (drop_test dropping) flags (told_tag s) (told_otc asn) (attributes b))) bytes (emitted-is good (plan_of z));
        size = q ∙ sym (ap (λ (x : List ℕ). length (emitted x (planned z))) (sym bytes) ∙ emitted-size good (plan_of z) ∙ rw (turned-is z) refl);
      }
