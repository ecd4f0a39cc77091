-- Where the communities attribute stands among a block's attributes.
use mathlib.Core.Path.{◌≡◌, refl, ◌∙◌, ap}
use mathlib.Core.Bool.{Bool, true, false, cond, ◌||◌, true≢false, false≢true}
use mathlib.Core.List.{List, [], ◌∷◌, ◌++◌, append-nil, flat_map}
use Prim.Native.Nat.{ℕ, ◌+◌, ◌≤◌}
use native.Mathlib.Omega.{arith}
use lib.Dec.{ltb, eqb}
use lib.ListN.{length, length-append}
use lib.Seq.{take-append_seam, drop-append_seam}
use Rattle.rules.specs.Bytes.{part, is_empty, exists}
use Rattle.rules.specs.Attributes.{Attribute, encode, encode_one, is_type, has}
use Rattle.rules.specs.Changes.{drop_from, with_value}
use Rattle.rules.proofs.Lists.{bit, keep_append}
use Rattle.rules.proofs.Dropping.{left}
use Rattle.rules.proofs.Blocks.{All, Framed}
use Rattle.rules.proofs.Parts.{only, is, count, count_cons, has-count, size, size_cons, encode-append}
use Rattle.attributes.specs.Layout.{place, place_of}
use Rattle.communities.specs.Tags.{tag_bytes}
use Rattle.rewriting.specs.Plan.{turned, turned_all}

-- The place after the first communities attribute: all the bytes where there is none.
unfoldable pub past_communities : List Attribute → ℕ
past_communities [] = 0
past_communities (a ∷ l) = cond (eqb a.type 16) (length (encode_one a)) (length (encode_one a) + past_communities l)

-- ---- Parts of bytes, and sizes

pub part_middle : (p q r : List ℕ) {i n : ℕ} → i ≡ length p → n ≡ length q → part i n (p ++ (q ++ r)) ≡ q
unfolding part
part_middle p q r e f = rw (e, f, drop-append_seam p (q ++ r), take-append_seam q r) refl

pub length-five : (a b c d e : List ℕ) → length (a ++ (b ++ (c ++ (d ++ e)))) ≡ length a + length b + length c + length d + length e
length-five a b c d e =
    omega (arith, length-append a (b ++ (c ++ (d ++ e))), length-append b (c ++ (d ++ e)), length-append c (d ++ e), length-append d e)

pub size-append : (l m : List Attribute) → size (l ++ m) ≡ size l + size m
size-append l m = ap length (encode-append l m) ∙ length-append (encode l) (encode m)

pub value-le : (a : Attribute) → length a.value ≤ length (encode_one a)
unfolding encode_one
value-le a = omega (arith, length-append a.len a.value)

-- ---- Where the communities attribute stands

-- No communities: nothing is rewritten.
pub turned_none : (dropped : List ℕ → Bool) (s : ℕ) (l : List Attribute) → has 16 l ≡ false → turned_all dropped s l ≡ l
unfolding turned_all turned flat_map has exists is_type
turned_none dropped s [] e = refl
turned_none dropped s (a ∷ l) e = go (eqb a.type 16) e (turned_none dropped s l)
  where
    go : (x : Bool) → x || has 16 l ≡ false → (has 16 l ≡ false → turned_all dropped s l ≡ l)
        → cond x (cond (is_empty (drop_from dropped a.value)) [] (with_value a (drop_from dropped a.value ++ tag_bytes s) ∷ [])) (a ∷ []) ++ turned_all dropped s l ≡ a ∷ l
    go true e ih = absurd (true≢false e)
    go false e ih = rw (ih e) refl

-- Some: one of them, with none before it.
pub record Found (l : List Attribute) : Type 0 where
  pub before : List Attribute
  pub here : Attribute
  pub after : List Attribute
  pub whole : l ≡ before ++ (here ∷ after)
  pub type : eqb here.type 16 ≡ true
  pub none : has 16 before ≡ false

pub found : (l : List Attribute) → has 16 l ≡ true → Found l
unfolding has exists is_type
found [] e = absurd (false≢true e)
found (a ∷ l) e = go (eqb a.type 16) refl e (found l)
  where
    go : (x : Bool) → eqb a.type 16 ≡ x → x || has 16 l ≡ true → (has 16 l ≡ true → Found l) → Found (a ∷ l)
    go true q e ih = record { before = []; here = a; after = l; whole = refl; type = q; none = refl }
    go false q e ih =
        let f = ih e in
        record { before = a ∷ f.before; here = f.here; after = f.after; whole = rw f.whole refl; type = f.type; none = rw q f.none }

-- Its place, and the place after it.
pub place_found : (x : List Attribute) (a : Attribute) (y : List Attribute) → has 16 x ≡ false → eqb a.type 16 ≡ true
    → (place_of 16 (x ++ (a ∷ y)) ≡ size x) × (past_communities (x ++ (a ∷ y)) ≡ size x + length (encode_one a))
unfolding place_of place past_communities has exists is_type encode flat_map
place_found [] a y e t = (rw t refl, rw t (omega arith))
place_found (z ∷ x) a y e t = go (eqb z.type 16) e (place_found x a y)
  where
    go : (q : Bool) → q || has 16 x ≡ false
        → (has 16 x ≡ false → eqb a.type 16 ≡ true → (place_of 16 (x ++ (a ∷ y)) ≡ size x) × (past_communities (x ++ (a ∷ y)) ≡ size x + length (encode_one a)))
        → (cond q 0 (length (encode_one z) + place_of 16 (x ++ (a ∷ y))) ≡ size (z ∷ x))
        × (cond q (length (encode_one z)) (length (encode_one z) + past_communities (x ++ (a ∷ y))) ≡ size (z ∷ x) + length (encode_one a))
    go true e ih = absurd (true≢false e)
    go false e ih = let f = ih e t in (omega (arith, f.0, size_cons z x), omega (arith, f.1, size_cons z x))

pub place_none : (x y : List Attribute) → has 16 x ≡ false → size x ≤ place_of 16 (x ++ y)
unfolding place_of place has exists is_type encode flat_map
place_none [] y e = omega arith
place_none (z ∷ x) y e = go (eqb z.type 16) e (place_none x y)
  where
    go : (q : Bool) → q || has 16 x ≡ false → (has 16 x ≡ false → size x ≤ place_of 16 (x ++ y))
        → size (z ∷ x) ≤ cond q 0 (length (encode_one z) + place_of 16 (x ++ y))
    go true e ih = absurd (true≢false e)
    go false e ih = omega (arith, ih e, size_cons z x)

-- The two places in order, within the bytes.
pub place-le-past : (l : List Attribute) → place_of 16 l ≤ past_communities l
unfolding place_of place past_communities
place-le-past [] = omega arith
place-le-past (a ∷ l) = go (eqb a.type 16) (place-le-past l)
  where
    go : (x : Bool) → place_of 16 l ≤ past_communities l
        → cond x 0 (length (encode_one a) + place_of 16 l) ≤ cond x (length (encode_one a)) (length (encode_one a) + past_communities l)
    go true ih = omega arith
    go false ih = omega arith

pub past-none : (l : List Attribute) → has 16 l ≡ false → past_communities l ≡ size l
unfolding past_communities has exists is_type encode flat_map
past-none [] e = refl
past-none (a ∷ l) e = go (eqb a.type 16) e (past-none l)
  where
    go : (x : Bool) → x || has 16 l ≡ false → (has 16 l ≡ false → past_communities l ≡ size l)
        → cond x (length (encode_one a)) (length (encode_one a) + past_communities l) ≡ size (a ∷ l)
    go true e ih = absurd (true≢false e)
    go false e ih = omega (arith, ih e, size_cons a l)

pub past-le : (l : List Attribute) → past_communities l ≤ size l
unfolding past_communities encode flat_map
past-le [] = omega arith
past-le (a ∷ l) = go (eqb a.type 16) (past-le l)
  where
    go : (x : Bool) → past_communities l ≤ size l → cond x (length (encode_one a)) (length (encode_one a) + past_communities l) ≤ size (a ∷ l)
    go true ih = omega (arith, size_cons a l)
    go false ih = omega (arith, size_cons a l)

pub count-append : (l m : List Attribute) → count 16 (l ++ m) ≡ count 16 l + count 16 m
count-append l m = ap length (keep_append (λ (a : Attribute). eqb a.type 16) l m) ∙ length-append (only (is 16) l) (only (is 16) m)

pub has-append : (l m : List Attribute) → has 16 l ≡ false → has 16 m ≡ false → has 16 (l ++ m) ≡ false
unfolding has exists
has-append [] m e f = f
has-append (a ∷ l) m e f = go (is_type 16 a) e (has-append l m)
  where
    go : (x : Bool) → x || has 16 l ≡ false → (has 16 l ≡ false → has 16 m ≡ false → has 16 (l ++ m) ≡ false) → x || has 16 (l ++ m) ≡ false
    go true e ih = absurd (true≢false e)
    go false e ih = ih e f

pub has-zero : (l : List Attribute) → count 16 l ≡ 0 → has 16 l ≡ false
has-zero l e = has-count 16 l ∙ ap (ltb 0) e

pub framed_middle : (x : List Attribute) (a : Attribute) (y : List Attribute) → All Framed (x ++ (a ∷ y)) → Framed a
framed_middle [] a y h = h.0
framed_middle (z ∷ x) a y h = framed_middle x a y h.1

pub turned_cons : (dropped : List ℕ → Bool) (s : ℕ) (a : Attribute) (l : List Attribute) → turned_all dropped s (a ∷ l) ≡ turned dropped s a ++ turned_all dropped s l
unfolding turned_all flat_map
turned_cons dropped s a l = refl

-- No type stands twice: none follows.
pub one_only : {l : List Attribute} (f : Found l) → count 16 l ≤ 1 → has 16 f.after ≡ false
one_only f once =
    has-zero f.after
    (omega (arith, once, ap (count 16) f.whole, count-append f.before (f.here ∷ f.after), count_cons (is 16) f.here f.after, ap bit f.type))

-- No communities attribute, no communities.
pub left-none : (dropped : List ℕ → Bool) (l : List Attribute) → has 16 l ≡ false → left dropped l ≡ []
unfolding left has exists is_type
left-none dropped [] e = refl
left-none dropped (a ∷ l) e = step (eqb a.type 16) e (left-none dropped l)
  where
    step : (x : Bool) → x || has 16 l ≡ false → (has 16 l ≡ false → left dropped l ≡ []) → cond x (drop_from dropped a.value) [] ++ left dropped l ≡ []
    step true e ih = absurd (true≢false e)
    step false e ih = ih e

-- One, and they are its own.
pub left_one : (dropped : List ℕ → Bool) (x : List Attribute) (a : Attribute) (y : List Attribute) → has 16 x ≡ false → eqb a.type 16 ≡ true → has 16 y ≡ false
    → left dropped (x ++ (a ∷ y)) ≡ drop_from dropped a.value
unfolding left has exists is_type
left_one dropped [] a y e t f = rw (t, left-none dropped y f) (append-nil (drop_from dropped a.value))
left_one dropped (z ∷ x) a y e t f = step (eqb z.type 16) e (λ q. left_one dropped x a y q t f)
  where
    step : (q : Bool) → q || has 16 x ≡ false → (has 16 x ≡ false → left dropped (x ++ (a ∷ y)) ≡ drop_from dropped a.value)
        → cond q (drop_from dropped z.value) [] ++ left dropped (x ++ (a ∷ y)) ≡ drop_from dropped a.value
    step true e ih = absurd (true≢false e)
    step false e ih = ih e
