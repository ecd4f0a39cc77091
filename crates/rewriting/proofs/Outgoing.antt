-- The bytes of a block as it goes out: what is rewritten of its front, a new tag, what is rewritten up to the place of a new OTC,
-- that OTC, and the rest.
use mathlib.Core.Path.{◌≡◌, refl, sym, ◌∙◌, ap}
use mathlib.Core.Bool.{Bool, true, false, cond, ◌&&◌, and_comm, and-false}
use mathlib.Core.List.{List, [], ◌∷◌, ◌++◌, map, append-nil, flat_map}
use mathlib.Core.Option.{none, some}
use Prim.Native.Nat.{ℕ, ◌+◌, ◌≤◌}
use native.Mathlib.Omega.{arith}
use lib.Dec.{leb, ltb, eqb}
use lib.ListN.{length, length-append}
use borrow.Author.Tests.{le-ltb, ltb-false, leb-true, ne_eqb}
use Rattle.rules.specs.Bytes.{is_empty, every, bytes4}
use Rattle.std.specs.Prelude.{Option, Some, None}
use Rattle.rules.specs.Attributes.{Attribute, encode, encode_one, has, has_otc, communities_type, otc_type}
use Rattle.rules.specs.Changes.{tag, drop_communities, insert, new_attribute, with_tag, add_tag, add_otc, tagged, marked, rewritten}
use Rattle.rules.proofs.Lists.{every_append}
use Rattle.rules.proofs.Blocks.{All, all_map}
use Rattle.rules.proofs.Parts.{only, is, has-count, encode-append}
use Rattle.rules.proofs.Dropping.{left, only-drop}
use Rattle.rules.proofs.Adding.{only-insert-off, only-tag}
use Rattle.settings.specs.Told.{told_tag, told_otc}
use Rattle.communities.specs.Tags.{tag_bytes}
use Rattle.rewriting.specs.Plan.{turned_all, new_tags, new_otcs, new_tag_bytes, new_otc_bytes}
use Rattle.rewriting.proofs.Fronts.{front, back, front-back, insert-between}
use Rattle.rewriting.proofs.Turned.{turned_dropped, turned-tagged, turned-bare, turned_same, has_left, turned-front, turned-back}

-- ---- Inserting past attributes of no higher type

abbrev Below : ℕ → List Attribute → Type 0
Below k l = All (λ a. ltb k a.type ≡ false) l

insert-past : (new : Attribute) (u v : List Attribute) → Below new.type u → insert new (u ++ v) ≡ u ++ insert new v
unfolding insert
insert-past new [] v h = refl
insert-past new (a ∷ u) v h = rw (h.0, insert-past new u v h.1) refl

front_below : (k : ℕ) (l : List Attribute) → Below k (front (ltb k) l)
unfolding front
front_below k [] = tt
front_below k (a ∷ l) = go (ltb k a.type) refl (front_below k l)
  where
    go : (x : Bool) → ltb k a.type ≡ x → Below k (front (ltb k) l) → Below k (cond x [] (a ∷ front (ltb k) l))
    go true e ih = tt
    go false e ih = (e, ih)

below_higher : (k m : ℕ) → k ≤ m → (l : List Attribute) → Below k l → Below m l
below_higher k m h l b = all_map (λ a e. le-ltb m a.type (omega (arith, ltb-false k a.type e))) l b

-- Five tests, of which the second and the fourth go last.
and_parts : (u n f o b : Bool) → u && (n && (f && (o && b))) ≡ (u && (f && b)) && (n && o)
and_parts false n f o b = refl
and_parts true false f o b = sym (and-false (f && b))
and_parts true true false o b = refl
and_parts true true true o b = and_comm o b

-- ---- The new attributes

module _ (dropped : List ℕ → Bool) (flags : ℕ) where
  new_tags-bytes : (left state : ℕ) → encode (new_tags flags left state) ≡ new_tag_bytes flags left state
  unfolding new_tags new_tag_bytes encode flat_map
  new_tags-bytes left state = go (eqb left 0 && leb state 2)
    where
      go : (x : Bool) → encode (cond x (new_attribute flags communities_type (tag state) ∷ []) []) ≡ cond x (encode_one (new_attribute flags communities_type (tag state))) []
      go true = append-nil (encode_one (new_attribute flags communities_type (tag state)))
      go false = refl

  new_otcs-bytes : (asn : Option ℕ) → encode (new_otcs flags asn) ≡ new_otc_bytes flags asn
  unfolding new_otcs new_otc_bytes encode flat_map
  new_otcs-bytes None = refl
  new_otcs-bytes (Some asn) = append-nil (encode_one (new_attribute flags otc_type (bytes4 asn)))

  module _ (s : ℕ) (l : List Attribute) where
    -- The tag: in the communities that are left, or new.
    tagged_is : tagged flags (told_tag s) (drop_communities dropped l)
        ≡ front (ltb 16) (turned_all dropped s l) ++ (new_tags flags (length (left dropped l)) s ++ back (ltb 16) (turned_all dropped s l))
    unfolding told_tag new_tags
    tagged_is = go (leb s 2) refl
      where
        whole : front (ltb 16) (turned_all dropped s l) ++ back (ltb 16) (turned_all dropped s l) ≡ turned_all dropped s l
        whole = front-back (ltb 16) (turned_all dropped s l)

        none_left : (u : List ℕ) → left dropped l ≡ u → leb s 2 ≡ true
            → add_tag flags s (drop_communities dropped l)
            ≡ front (ltb 16) (turned_all dropped s l) ++ (cond (eqb (length u) 0 && true) (new_attribute flags communities_type (tag s) ∷ []) [] ++ back (ltb 16) (turned_all dropped s l))
        none_left [] e z =
            unfold add_tag is_empty in
            rw (has_left dropped l, e)
            (ap (insert (new_attribute flags communities_type (tag s))) (sym (turned_dropped dropped l) ∙ sym (turned-bare dropped s l e))
            ∙ (unfold new_attribute in insert-between (new_attribute flags communities_type (tag s)) (turned_all dropped s l)))
        none_left (x ∷ u) e z =
            unfold add_tag is_empty in
            rw (has_left dropped l, e, ne_eqb (length (x ∷ u)) 0 (λ q. omega arith)) (sym (turned-tagged dropped s (leb-true s 2 z) l) ∙ sym whole)

        go : (x : Bool) → leb s 2 ≡ x
            → tagged flags (cond x (some s) none) (drop_communities dropped l)
            ≡ front (ltb 16) (turned_all dropped s l) ++ (cond (eqb (length (left dropped l)) 0 && x) (new_attribute flags communities_type (tag s) ∷ []) [] ++ back (ltb 16) (turned_all dropped s l))
        go true e = unfold tagged in none_left (left dropped l) refl e
        go false e =
            unfold tagged in
            rw (and-false (eqb (length (left dropped l)) 0)) (sym (turned_dropped dropped l) ∙ turned_same dropped 3 s (unfold tag_bytes in rw e refl) l ∙ sym whole)

    -- Neither the tags nor a new one touch the OTC.
    tagged-otc : has_otc (tagged flags (told_tag s) (drop_communities dropped l)) ≡ has_otc l
    unfolding has_otc told_tag
    tagged-otc = has-count otc_type _ ∙ ap (λ (z : List Attribute). ltb 0 (length z)) (go (leb s 2) ∙ only-drop dropped (is otc_type) refl l) ∙ sym (has-count otc_type l)
      where
        m : List Attribute
        m = drop_communities dropped l

        added : (x : Bool) → only (is otc_type) (cond x (map (with_tag s) m) (insert (new_attribute flags communities_type (tag s)) m)) ≡ only (is otc_type) m
        added true = only-tag (is otc_type) refl s m
        added false = unfold new_attribute in only-insert-off (is otc_type) (new_attribute flags communities_type (tag s)) refl m

        go : (x : Bool) → only (is otc_type) (tagged flags (cond x (some s) none) m) ≡ only (is otc_type) m
        go true = unfold tagged add_tag in added (has communities_type m)
        go false = unfold tagged in refl

    -- The whole list.
    module _ (asn : Option ℕ) where
      U : List Attribute
      U = front (ltb 16) (turned_all dropped s l)

      B : List Attribute
      B = back (ltb 16) (turned_all dropped s l)

      N : List Attribute
      N = new_tags flags (length (left dropped l)) s

      -- the new OTC goes past the front and a new tag
      past : (n : ℕ) → insert (new_attribute flags otc_type (bytes4 n)) (U ++ (N ++ B)) ≡ U ++ (N ++ (front (ltb 35) B ++ (new_attribute flags otc_type (bytes4 n) ∷ back (ltb 35) B)))
      past n =
          insert-past new U (N ++ B) (unfold new_attribute U in below_higher 16 35 (omega arith) (front (ltb 16) (turned_all dropped s l)) (front_below 16 (turned_all dropped s l)))
          ∙ ap (λ (z : List Attribute). U ++ z) (insert-past new N B tags ∙ ap (λ (z : List Attribute). N ++ z) (unfold new_attribute in insert-between new B))
        where
          new : Attribute
          new = new_attribute flags otc_type (bytes4 n)

          tags : Below new.type N
          tags = unfold new_attribute N new_tags in go (eqb (length (left dropped l)) 0 && leb s 2)
            where
              go : (x : Bool) → Below 35 (cond x (new_attribute flags communities_type (tag s) ∷ []) [])
              go true = unfold new_attribute in (refl, tt)
              go false = tt

      rewritten-is : rewritten dropped flags (told_tag s) (told_otc asn) l ≡ U ++ (N ++ (front (ltb 35) B ++ (new_otcs flags (cond (has_otc l) None asn) ++ back (ltb 35) B)))
      unfolding rewritten U N B
      rewritten-is = go asn (has_otc l) refl
        where
          split : U ++ (N ++ B) ≡ U ++ (N ++ (front (ltb 35) B ++ back (ltb 35) B))
          split = ap (λ (z : List Attribute). U ++ (N ++ z)) (sym (front-back (ltb 35) B))

          go : (a : Option ℕ) (y : Bool) → has_otc l ≡ y
              → marked flags (told_otc a) (tagged flags (told_tag s) (drop_communities dropped l))
              ≡ U ++ (N ++ (front (ltb 35) B ++ (new_otcs flags (cond y None a) ++ back (ltb 35) B)))
          go None true f = unfold told_otc marked new_otcs in tagged_is ∙ split
          go None false f = unfold told_otc marked new_otcs in tagged_is ∙ split
          go (Some n) true f = unfold told_otc marked add_otc new_otcs in rw (tagged-otc, f) (tagged_is ∙ split)
          go (Some n) false f = unfold told_otc marked add_otc new_otcs in rw (tagged-otc, f) (ap (insert (new_attribute flags otc_type (bytes4 n))) tagged_is ∙ past n)

      -- The same attributes wherever the new ones stand: what passes a test of each, and how many they are.
      parts : turned_all dropped s l ≡ U ++ (front (ltb 35) B ++ back (ltb 35) B)
      unfolding U B
      parts = sym (ap (λ (z : List Attribute). front (ltb 16) (turned_all dropped s l) ++ z) (front-back (ltb 35) (back (ltb 16) (turned_all dropped s l))) ∙ front-back (ltb 16) (turned_all dropped s l))

      abbrev O : List Attribute
      O = new_otcs flags (cond (has_otc l) None asn)

      pub rewritten-every : (p : Attribute → Bool)
          → every p (rewritten dropped flags (told_tag s) (told_otc asn) l) ≡ every p (turned_all dropped s l) && (every p (new_tags flags (length (left dropped l)) s) && every p O)
      unfolding N
      rewritten-every p =
          let f : List Attribute = front (ltb 35) B in
          let k : List Attribute = back (ltb 35) B in
          rw (rewritten-is, parts, all U (N ++ (f ++ (O ++ k))), all N (f ++ (O ++ k)), all f (O ++ k), all O k, all U (f ++ k), all f k)
          (and_parts (every p U) (every p N) (every p f) (every p O) (every p k))
        where
          all : (x y : List Attribute) → every p (x ++ y) ≡ every p x && every p y
          all x y = every_append p x y

      pub rewritten-count : length (rewritten dropped flags (told_tag s) (told_otc asn) l) ≡ length (turned_all dropped s l) + length (new_tags flags (length (left dropped l)) s) + length O
      unfolding N
      rewritten-count =
          omega (
            arith,
            ap length rewritten-is,
            ap length parts,
            length-append U (N ++ (front (ltb 35) B ++ (O ++ back (ltb 35) B))),
            length-append N (front (ltb 35) B ++ (O ++ back (ltb 35) B)),
            length-append (front (ltb 35) B) (O ++ back (ltb 35) B),
            length-append O (back (ltb 35) B),
            length-append U (front (ltb 35) B ++ back (ltb 35) B),
            length-append (front (ltb 35) B) (back (ltb 35) B),
          )

  -- The bytes: of each part of the block what is rewritten of it, and the new attributes between.
  pub outgoing-bytes : (l : List Attribute) (s : ℕ) (asn : Option ℕ)
      → encode (rewritten dropped flags (told_tag s) (told_otc asn) l)
      ≡ encode (turned_all dropped s (front (ltb 16) l)) ++ (new_tag_bytes flags (length (left dropped l)) s
      ++ (encode (turned_all dropped s (front (ltb 35) (back (ltb 16) l))) ++ (new_otc_bytes flags (cond (has_otc l) None asn) ++ encode (turned_all dropped s (back (ltb 35) (back (ltb 16) l))))))
  unfolding U N B
  outgoing-bytes l s asn =
      ap encode (rewritten-is s l asn)
      ∙ encode-append (U s l asn) _ ∙ ap (λ (z : List ℕ). encode (U s l asn) ++ z)
      (encode-append (N s l asn) _ ∙ ap (λ (z : List ℕ). encode (N s l asn) ++ z)
      (encode-append (front (ltb 35) (B s l asn)) _ ∙ ap (λ (z : List ℕ). encode (front (ltb 35) (B s l asn)) ++ z)
      (encode-append (new_otcs flags (cond (has_otc l) None asn)) (back (ltb 35) (B s l asn)))))
      ∙ rw (new_tags-bytes (length (left dropped l)) s, new_otcs-bytes (cond (has_otc l) None asn), turned-front dropped (ltb 16) refl s l, turned-back dropped (ltb 16) refl s l, turned-front dropped (ltb 35) refl s (back (ltb 16) l), turned-back dropped (ltb 35) refl s (back (ltb 16) l)) refl
