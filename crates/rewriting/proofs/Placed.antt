-- A part of a block as it goes out, by places: the communities attribute is rewritten where it stands in that part.
use mathlib.Core.Path.{◌≡◌, refl, sym, ◌∙◌, ap, subst}
use mathlib.Core.Bool.{Bool, true, false, cond, ◌&&◌, and-false}
use mathlib.Core.List.{List, [], ◌∷◌, ◌++◌, append_assoc, append-nil, flat_map}
use Prim.Native.Nat.{ℕ, ◌+◌, ◌-◌, ◌≤◌}
use native.Mathlib.Omega.{arith}
use lib.Dec.{leb, ltb, eqb}
use lib.ListN.{length, length-append}
use borrow.Author.Tests.{le-leb, lt-leb, lt-ltb, le-ltb}
use Rattle.rules.specs.Bytes.{part, is_empty}
use Rattle.rules.specs.Attributes.{Attribute, encode, encode_one, is_type, has}
use Rattle.rules.specs.Changes.{drop_from, with_value}
use Rattle.rules.proofs.Blocks.{All, Framed, attribute-encode, encoded_pos}
use Rattle.rules.proofs.Parts.{is, count, count_cons, size, size_cons, encode-append}
use Rattle.attributes.specs.Layout.{place_of}
use Rattle.communities.specs.Tags.{drop_test, tag_bytes}
use Rattle.communities.specs.declared.tags.Dropping.{Dropping}
use Rattle.rewriting.specs.Plan.{turned, turned_all, left_of, community_bytes, item, piece}
use Rattle.rewriting.specs.declared.plan.Plan.{Plan}
use Rattle.rewriting.proofs.Turned.{turned-append}
use Rattle.rewriting.proofs.Found.{past_communities, part_middle, size-append, turned_none, Found, found, place_found, place_none, count-append, has-append, has-zero, framed_middle, turned_cons}

-- One communities attribute as it goes out.
community-is : (dropped : List ℕ → Bool) (s : ℕ) (a : Attribute) → Framed a → eqb a.type 16 ≡ true → encode (turned dropped s a) ≡ community_bytes dropped s (encode_one a)
unfolding turned community_bytes left_of is_type
community-is dropped s a f t = rw (attribute-encode a f, t) (go (is_empty (drop_from dropped a.value)) (with_value a (drop_from dropped a.value ++ tag_bytes s)))
  where
    go : (x : Bool) (z : Attribute) → encode (cond x [] (z ∷ [])) ≡ cond x [] (encode_one z)
    go true z = unfold encode flat_map in refl
    go false z = unfold encode flat_map in append-nil (encode_one z)

-- A list with one of them.
pub turned-found : (dropped : List ℕ → Bool) (s : ℕ) {l : List Attribute} (f : Found l) → has 16 f.after ≡ false → Framed f.here
    → encode (turned_all dropped s l) ≡ encode f.before ++ (community_bytes dropped s (encode_one f.here) ++ encode f.after)
turned-found dropped s f n h =
    ap encode
    (ap (turned_all dropped s) f.whole ∙ turned-append dropped s f.before (f.here ∷ f.after)
    ∙ rw (turned_none dropped s f.before f.none, turned_cons dropped s f.here f.after, turned_none dropped s f.after n) refl)
    ∙ encode-append f.before (turned dropped s f.here ++ f.after)
    ∙ ap (λ (z : List ℕ). encode f.before ++ z)
    (encode-append (turned dropped s f.here) f.after ∙ ap (λ (z : List ℕ). z ++ encode f.after) (community-is dropped s f.here h f.type))

module _ (dropping : Dropping) (s : ℕ) (u m v : List Attribute) (once : count 16 (u ++ (m ++ v)) ≤ 1) (framed : All Framed (u ++ (m ++ v))) (p : Plan) (dropping_is : p.dropping ≡ dropping) (tag_is : p.tag ≡ s)
    (placeIs : p.communities ≡ place_of 16 (u ++ (m ++ v))) (restIs : p.rest ≡ past_communities (u ++ (m ++ v))) where
  counts : count 16 u + (count 16 m + count 16 v) ≤ 1
  counts = omega (arith, once, count-append u (m ++ v), count-append m v)

  -- The communities attribute stands in this part.
  module _ (f : Found m) where
    m-count : count 16 m ≡ count 16 f.before + count 16 (f.here ∷ f.after)
    m-count = ap (count 16) f.whole ∙ count-append f.before (f.here ∷ f.after)

    here-count : count 16 (f.here ∷ f.after) ≡ 1 + count 16 f.after
    here-count = count_cons (is 16) f.here f.after ∙ rw f.type refl

    shape : u ++ (m ++ v) ≡ (u ++ f.before) ++ (f.here ∷ (f.after ++ v))
    shape =
        ap (λ (z : List Attribute). u ++ (z ++ v)) f.whole
        ∙ ap (λ (z : List Attribute). u ++ z) (append_assoc f.before (f.here ∷ f.after) v)
        ∙ sym (append_assoc u f.before (f.here ∷ (f.after ++ v)))

    bare : has 16 (u ++ f.before) ≡ false
    bare = has-append u f.before (has-zero u (omega (arith, counts, m-count, here-count))) f.none

    at : p.communities ≡ size u + size f.before
    at = placeIs ∙ ap (place_of 16) shape ∙ (place_found (u ++ f.before) f.here (f.after ++ v) bare f.type).0 ∙ size-append u f.before

    past : p.rest ≡ size u + size f.before + length (encode_one f.here)
    past =
        restIs ∙ ap past_communities shape ∙ (place_found (u ++ f.before) f.here (f.after ++ v) bare f.type).1
        ∙ ap (λ (n : ℕ). n + length (encode_one f.here)) (size-append u f.before)

    m-size : size m ≡ size f.before + (length (encode_one f.here) + size f.after)
    m-size = ap size f.whole ∙ size-append f.before (f.here ∷ f.after) ∙ ap (λ (n : ℕ). size f.before + n) (size_cons f.here f.after)

    bytes : encode (u ++ (m ++ v)) ≡ encode u ++ (encode f.before ++ (encode_one f.here ++ (encode f.after ++ encode v)))
    unfolding encode flat_map
    bytes = ap encode shape ∙ encode-append (u ++ f.before) (f.here ∷ (f.after ++ v)) ∙ rw (encode-append u f.before, encode-append f.after v) (append_assoc (encode u) (encode f.before) _)

    rewritten : encode (turned_all (drop_test dropping) s m) ≡ encode f.before ++ (community_bytes (drop_test dropping) s (encode_one f.here) ++ encode f.after)
    rewritten =
        turned-found (drop_test dropping) s f (has-zero f.after (omega (arith, counts, m-count, here-count)))
        (framed_middle (u ++ f.before) f.here (f.after ++ v) (subst (All Framed) shape framed))

    front-part : part (size u) (p.communities - size u) (encode (u ++ (m ++ v))) ≡ encode f.before
    front-part = rw bytes (part_middle (encode u) (encode f.before) _ refl (omega (arith, at)))

    here-part : part p.communities (p.rest - p.communities) (encode (u ++ (m ++ v))) ≡ encode_one f.here
    here-part =
        rw (bytes, ← append_assoc (encode u) (encode f.before) (encode_one f.here ++ (encode f.after ++ encode v)))
        (part_middle (encode u ++ encode f.before) (encode_one f.here) _ (omega (arith, at, length-append (encode u) (encode f.before))) (omega (arith, at, past)))

    after-part : part p.rest (size u + size m - p.rest) (encode (u ++ (m ++ v))) ≡ encode f.after
    after-part =
        rw (bytes, ← append_assoc (encode f.before) (encode_one f.here) (encode f.after ++ encode v), ← append_assoc (encode u) (encode f.before ++ encode_one f.here) (encode f.after ++ encode v))
        (part_middle (encode u ++ (encode f.before ++ encode_one f.here)) (encode f.after) (encode v)
        (omega (arith, past, length-append (encode u) (encode f.before ++ encode_one f.here), length-append (encode f.before) (encode_one f.here))) (omega (arith, past, m-size)))

    piece-found : encode (turned_all (drop_test dropping) s m) ≡ piece (encode (u ++ (m ++ v))) p (size u) (size u + size m)
    unfolding piece item
    piece-found =
        rw (le-leb (size u) p.communities (omega (arith, at)), lt-ltb p.communities (size u + size m) (omega (arith, at, m-size, encoded_pos f.here)), front-part, here-part, after-part, dropping_is, tag_is) rewritten

  -- It does not.
  whole_part : part (size u) (size u + size m - size u) (encode (u ++ (m ++ v))) ≡ encode m
  whole_part = rw (encode-append u (m ++ v), encode-append m v) (part_middle (encode u) (encode m) (encode v) refl (omega arith))

  piece-plain : has 16 m ≡ false → encode (turned_all (drop_test dropping) s m) ≡ piece (encode (u ++ (m ++ v))) p (size u) (size u + size m)
  unfolding piece
  piece-plain e = rw (turned_none (drop_test dropping) s m e, outside (has 16 u) refl, whole_part) refl
    where
      outside : (z : Bool) → has 16 u ≡ z → leb (size u) p.communities && ltb p.communities (size u + size m) ≡ false
      outside true q =
          let f = found u q in
          let w : u ++ (m ++ v) ≡ f.before ++ (f.here ∷ (f.after ++ (m ++ v))) = ap (λ (z : List Attribute). z ++ (m ++ v)) f.whole ∙ append_assoc f.before (f.here ∷ f.after) (m ++ v) in
          let c : p.communities ≡ size f.before = placeIs ∙ ap (place_of 16) w ∙ (place_found f.before f.here (f.after ++ (m ++ v)) f.none f.type).0 in
          let k : size u ≡ size f.before + size (f.here ∷ f.after) = ap size f.whole ∙ size-append f.before (f.here ∷ f.after) in
          rw (lt-leb (size u) p.communities (omega (arith, c, k, size_cons f.here f.after, encoded_pos f.here))) refl
      outside false q =
          let n : size (u ++ m) ≤ p.communities = rw placeIs (rw (← append_assoc u m v) (place_none (u ++ m) v (has-append u m q e))) in
          rw (le-ltb p.communities (size u + size m) (omega (arith, n, size-append u m))) (and-false (leb (size u) p.communities))

  pub piece_is : encode (turned_all (drop_test dropping) s m) ≡ piece (encode (u ++ (m ++ v))) p (size u) (size u + size m)
  piece_is = go (has 16 m) refl
    where
      go : (z : Bool) → has 16 m ≡ z → encode (turned_all (drop_test dropping) s m) ≡ piece (encode (u ++ (m ++ v))) p (size u) (size u + size m)
      go true e = piece-found (found m e)
      go false e = piece-plain e
