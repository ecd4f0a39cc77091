-- A plan that is made from the places of a readable block fits the block, and stands for the bytes that `rules` asks for.
use mathlib.Core.Path.{◌≡◌, refl, sym, ◌∙◌, ap, subst}
use mathlib.Core.Bool.{Bool, true, false, cond}
use mathlib.Core.List.{List, [], ◌∷◌, ◌++◌, append_assoc, append-nil, flat_map}
use mathlib.Core.Logic.{◌⊎◌, inl, inr}
use Prim.Native.Nat.{ℕ, ◌+◌, ◌-◌, ◌≤◌, ◌<◌}
use native.Mathlib.Omega.{arith}
use lib.Dec.{ltb}
use lib.ListN.{length, length-append}
use borrow.Author.Tests.{le-ltb, ltb-false}
use Rattle.rules.specs.Bytes.{part}
use Rattle.rules.specs.Attributes.{Attribute, attribute, encode, encode_one, has, has_otc}
use Rattle.rules.specs.Settings.{block_max}
use Rattle.rules.specs.Changes.{drop_from, rewritten}
use Rattle.rules.proofs.Blocks.{All, Framed, all_map, attribute-encode}
use Rattle.rules.proofs.Parts.{count, size, size_cons, encode-append}
use Rattle.rules.proofs.Communities.{drop_le}
use Rattle.rules.proofs.Readable.{Good}
use Rattle.rules.proofs.Dropping.{left}
use Rattle.settings.specs.Told.{told_tag, told_otc}
use Rattle.attributes.specs.Layout.{place, place_of, place_above}
use Rattle.communities.specs.Tags.{drop_test}
use Rattle.std.specs.Prelude.{Option, None}
use Rattle.communities.specs.declared.tags.Dropping.{Dropping}
use Rattle.rewriting.specs.Plan.{turned_all, left_of, community_bytes, new_tag_bytes, new_otc_bytes, item, piece, emitted, Clear, Whole, Leaving, PlanOk}
use Rattle.rewriting.specs.declared.plan.Plan.{Plan}
use Rattle.rewriting.proofs.Fronts.{front, back, front-back, front-size}
use Rattle.rewriting.proofs.Turned.{turned-append}
use Rattle.rewriting.proofs.Outgoing.{outgoing-bytes}
use Rattle.rewriting.proofs.Found.{past_communities, part_middle, size-append, length-five, value-le, Found, found, place_found, place_none, place-le-past, past-le, framed_middle, one_only, left-none, left_one}
use Rattle.rewriting.proofs.Placed.{turned-found, piece_is}

-- The plan of a block with the attributes l: its numbers are those of l.
pub record PlanOf (l : List Attribute) (dropping : Dropping) (flags s : ℕ) (asn : Option ℕ) (p : Plan) : Type 0 where
  pub communities : p.communities ≡ place_of 16 l
  pub rest : p.rest ≡ past_communities l
  pub left : p.left ≡ length (left (drop_test dropping) l)
  pub new_tag : p.new_tag ≡ place_above 16 l
  pub new_otc : p.new_otc ≡ place_above 35 l
  pub dropping_is : p.dropping ≡ dropping
  pub flags_is : p.flags ≡ flags
  pub tag : p.tag ≡ s
  pub otc : p.otc ≡ cond (has_otc l) None asn

-- ---- The three parts of a block

-- What passes the higher test passes the lower.
place-past : (l : List Attribute) → place (λ k. ltb 35 k) l ≡ size (front (ltb 16) l) + size (front (ltb 35) (back (ltb 16) l))
unfolding place front back encode flat_map
place-past [] = refl
place-past (a ∷ l) = step (ltb 16 a.type) refl (place-past l)
  where
    step : (x : Bool) → ltb 16 a.type ≡ x → place (λ k. ltb 35 k) l ≡ size (front (ltb 16) l) + size (front (ltb 35) (back (ltb 16) l))
        → place (λ k. ltb 35 k) (a ∷ l) ≡ size (cond x [] (a ∷ front (ltb 16) l)) + size (front (ltb 35) (cond x (a ∷ l) (back (ltb 16) l)))
    step true e ih = omega (arith, front-size (ltb 35) (a ∷ l))
    step false e ih =
        rw (le-ltb 35 a.type (omega (arith, ltb-false 16 a.type e))) (omega (arith, ih, size_cons a (front (ltb 16) l)))

module _ (l : List Attribute) where
  F : List Attribute
  F = front (ltb 16) l

  M : List Attribute
  M = front (ltb 35) (back (ltb 16) l)

  W : List Attribute
  W = back (ltb 35) (back (ltb 16) l)

  parts : l ≡ F ++ (M ++ W)
  unfolding F M W
  parts = sym (ap (λ (z : List Attribute). front (ltb 16) l ++ z) (front-back (ltb 35) (back (ltb 16) l)) ∙ front-back (ltb 16) l)

  tag_place_lem : place_above 16 l ≡ size F
  unfolding place_above F
  tag_place_lem = sym (front-size (ltb 16) l)

  otc_place_lem : place_above 35 l ≡ size F + size M
  unfolding place_above F M
  otc_place_lem = place-past l

-- ---- What the plan stands for

module _ {l : List Attribute} (g : Good l) {dropping : Dropping} {flags s : ℕ} {asn : Option ℕ} {p : Plan} (o : PlanOf l dropping flags s asn p) where
  framed : All Framed l
  framed = all_map (λ a h. h.0) l g.each

  piece-at : (u m v : List Attribute) → l ≡ u ++ (m ++ v) → {from to : ℕ} → from ≡ size u → to ≡ size u + size m
      → encode (turned_all (drop_test dropping) s m) ≡ piece (encode l) p from to
  piece-at u m v e q r =
      rw (q, r)
      (subst (λ (z : List Attribute). encode (turned_all (drop_test dropping) s m) ≡ piece (encode z) p (size u) (size u + size m)) (sym e)
      (piece_is dropping s u m v (subst (λ (z : List Attribute). count 16 z ≤ 1) e (g.once 16)) (subst (All Framed) e framed) p o.dropping_is o.tag
      (o.communities ∙ ap (place_of 16) e) (o.rest ∙ ap past_communities e)))

  pub emitted-is : emitted (encode l) p ≡ encode (rewritten (drop_test dropping) flags (told_tag s) (told_otc asn) l)
  unfolding emitted F M W
  emitted-is =
      rw (← front-piece, ← middle_piece, ← last_piece, o.left, o.flags_is, o.tag, o.otc) (sym (outgoing-bytes (drop_test dropping) flags l s asn))
    where
      front-piece : encode (turned_all (drop_test dropping) s (F l)) ≡ piece (encode l) p 0 p.new_tag
      front-piece = piece-at [] (F l) (M l ++ W l) (parts l) (unfold encode flat_map in refl) (o.new_tag ∙ tag_place_lem l ∙ (unfold encode flat_map in omega arith))

      middle_piece : encode (turned_all (drop_test dropping) s (M l)) ≡ piece (encode l) p p.new_tag p.new_otc
      middle_piece = piece-at (F l) (M l) (W l) (parts l) (o.new_tag ∙ tag_place_lem l) (o.new_otc ∙ otc_place_lem l)

      last_parts : l ≡ (F l ++ M l) ++ (W l ++ [])
      last_parts = parts l ∙ sym (append_assoc (F l) (M l) (W l)) ∙ ap (λ (z : List Attribute). (F l ++ M l) ++ z) (sym (append-nil (W l)))

      last_piece : encode (turned_all (drop_test dropping) s (W l)) ≡ piece (encode l) p p.new_otc (length (encode l))
      last_piece =
          piece-at (F l ++ M l) (W l) [] last_parts (o.new_otc ∙ otc_place_lem l ∙ sym (size-append (F l) (M l)))
          (ap size (parts l ∙ sym (append_assoc (F l) (M l) (W l))) ∙ size-append (F l ++ M l) (W l))

  -- ---- The plan fits the block

  -- The communities attribute lies within what stands before a place, or after it.
  clear_at : (u w : List Attribute) → l ≡ u ++ w → Clear p (size u)
  clear_at u w e = go (has 16 u) refl
    where
      go : (x : Bool) → has 16 u ≡ x → (size u ≤ p.communities) ⊎ (p.rest ≤ size u)
      go true q =
          let f = found u q in
          let z : l ≡ f.before ++ (f.here ∷ (f.after ++ w)) = e ∙ ap (λ (k : List Attribute). k ++ w) f.whole ∙ append_assoc f.before (f.here ∷ f.after) w in
          let r = o.rest ∙ ap past_communities z ∙ (place_found f.before f.here (f.after ++ w) f.none f.type).1 in
          let k = ap size f.whole ∙ size-append f.before (f.here ∷ f.after) in
          inr (omega (arith, r, k, size_cons f.here f.after))
      go false q = inl (rw (o.communities, e) (place_none u w q))

  -- Where there is one: its bytes, and what is left of it.
  module _ (f : Found l) where
    after_none : has 16 f.after ≡ false
    after_none = one_only f (g.once 16)

    at : p.communities ≡ size f.before
    at = o.communities ∙ ap (place_of 16) f.whole ∙ (place_found f.before f.here f.after f.none f.type).0

    past : p.rest ≡ size f.before + length (encode_one f.here)
    past = o.rest ∙ ap past_communities f.whole ∙ (place_found f.before f.here f.after f.none f.type).1

    sizes : size l ≡ size f.before + (length (encode_one f.here) + size f.after)
    sizes = ap size f.whole ∙ size-append f.before (f.here ∷ f.after) ∙ ap (λ (n : ℕ). size f.before + n) (size_cons f.here f.after)

    here-framed : Framed f.here
    here-framed = framed_middle f.before f.here f.after (subst (All Framed) f.whole framed)

    item-is : item (encode l) p ≡ encode_one f.here
    unfolding item encode flat_map
    item-is =
        ap (part p.communities (p.rest - p.communities)) (ap encode f.whole ∙ encode-append f.before (f.here ∷ f.after))
        ∙ part_middle (encode f.before) (encode_one f.here) (encode f.after) at (omega (arith, at, past))

    left_is : p.left ≡ length (left_of (drop_test dropping) (item (encode l) p))
    unfolding left_of
    left_is =
        o.left ∙ ap length (ap (left (drop_test dropping)) f.whole ∙ left_one (drop_test dropping) f.before f.here f.after f.none f.type after_none)
        ∙ sym (ap (λ (z : List ℕ). length (drop_from (drop_test dropping) (attribute z).value)) item-is ∙ ap (λ (z : Attribute). length (drop_from (drop_test dropping) z.value)) (attribute-encode f.here here-framed))

    whole_is : Whole (item (encode l) p)
    unfolding encode_one
    whole_is =
        rw item-is
        (record {
          two = omega arith;
          header = omega (arith, here-framed.form, length-append f.here.len f.here.value);
        })

    -- how long all of it is once the attribute is rewritten
    pub turned_size_lem : size (turned_all (drop_test dropping) s l) + length (encode_one f.here) ≡ size l + length (community_bytes (drop_test dropping) s (item (encode l) p))
    turned_size_lem =
        let e = ap length (turned-found (drop_test dropping) s f after_none here-framed) in
        let q = ap (λ (z : List ℕ). length (community_bytes (drop_test dropping) s z)) item-is in
        omega (arith, e, q, sizes, length-append (encode f.before) (community_bytes (drop_test dropping) s (encode_one f.here) ++ encode f.after), length-append (community_bytes (drop_test dropping) s (encode_one f.here)) (encode f.after))

  -- A place before the end is that of one.
  there : p.communities < size l → Found l
  there h = go (has 16 l) refl
    where
      go : (x : Bool) → has 16 l ≡ x → Found l
      go true e = found l e
      go false e = absurd (omega (arith, o.communities, rw (append-nil l) at (place_none l [] e)))

  few : p.left ≤ size l
  few = go (has 16 l) refl
    where
      go : (x : Bool) → has 16 l ≡ x → p.left ≤ size l
      go true e =
          let f = found l e in
          omega (
            arith,
            ap length (ap (left (drop_test dropping)) f.whole ∙ left_one (drop_test dropping) f.before f.here f.after f.none f.type (after_none f)),
            o.left,
            drop_le (drop_test dropping) f.here.value,
            sizes f,
            value-le f.here,
          )
      go false e = omega (arith, o.left, ap length (left-none (drop_test dropping) l e))

  total : size l ≡ size (F l) + (size (M l) + size (W l))
  total = ap size (parts l) ∙ size-append (F l) (M l ++ W l) ∙ ap (λ (n : ℕ). size (F l) + n) (size-append (M l) (W l))

  pub plan_ok : size l ≤ block_max → PlanOk (encode l) p
  plan_ok h =
      record {
        from = omega (arith, o.communities, o.rest, place-le-past l);
        to = omega (arith, o.rest, past-le l);
        leaving = λ q. subst (λ (t : Dropping). Leaving (drop_test t) (item (encode l) p) p.left) (sym o.dropping_is) (record { whole = whole_is (there q); is = left_is (there q); few = omega (arith, few) });
        tag_place = omega (arith, o.new_tag, o.new_otc, tag_place_lem l, otc_place_lem l);
        otc_place = omega (arith, o.new_otc, otc_place_lem l, total);
        tag_clear = subst (Clear p) (sym (o.new_tag ∙ tag_place_lem l)) (clear_at (F l) (M l ++ W l) (parts l));
        otc_clear =
            subst (Clear p) (sym (o.new_otc ∙ otc_place_lem l ∙ sym (size-append (F l) (M l))))
            (clear_at (F l ++ M l) (W l) (parts l ∙ sym (append_assoc (F l) (M l) (W l))));
      }

  -- How many bytes go out.
  pub emitted-size : length (emitted (encode l) p) ≡ size (turned_all (drop_test dropping) s l) + length (new_tag_bytes flags p.left s) + length (new_otc_bytes flags p.otc)
  unfolding F M W
  emitted-size =
      omega (
        arith,
        ap length (emitted-is ∙ outgoing-bytes (drop_test dropping) flags l s asn),
        turned-total,
        length-five (encode (turned_all (drop_test dropping) s (F l))) (new_tag_bytes flags (length (left (drop_test dropping) l)) s) (encode (turned_all (drop_test dropping) s (M l))) (new_otc_bytes flags (cond (has_otc l) None asn)) (encode (turned_all (drop_test dropping) s (W l))),
        ap (λ (n : ℕ). length (new_tag_bytes flags n s)) o.left,
        ap (λ (n : Option ℕ). length (new_otc_bytes flags n)) o.otc,
      )
    where
      turned-total : size (turned_all (drop_test dropping) s l) ≡ size (turned_all (drop_test dropping) s (F l)) + (size (turned_all (drop_test dropping) s (M l)) + size (turned_all (drop_test dropping) s (W l)))
      turned-total =
          ap (λ (z : List Attribute). size (turned_all (drop_test dropping) s z)) (parts l)
          ∙ ap size (turned-append (drop_test dropping) s (F l) (M l ++ W l)) ∙ size-append (turned_all (drop_test dropping) s (F l)) (turned_all (drop_test dropping) s (M l ++ W l))
          ∙ ap (λ (n : ℕ). size (turned_all (drop_test dropping) s (F l)) + n) (ap size (turned-append (drop_test dropping) s (M l) (W l)) ∙ size-append (turned_all (drop_test dropping) s (M l)) (turned_all (drop_test dropping) s (W l)))
