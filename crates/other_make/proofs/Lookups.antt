-- An attribute of ours looked up: by the bytes that are found, and what it says of all of theirs.
use mathlib.Core.Path.{◌≡◌, refl, sym, ap, ◌∙◌}
use mathlib.Core.Bool.{Bool, true, false, not, cond, ◌&&◌, ◌||◌, or-false, true≢false}
use mathlib.Core.List.{List, [], ◌∷◌}
use Prim.Native.Nat.{ℕ}
use native.Mathlib.Omega.{arith}
use lib.Dec.{leb, eqb}
use lib.ListN.{length, get_or, length-append}
use borrow.Author.Tests.{eqb-true, not-true}
use Rattle.rules.specs.Bytes.{is_empty, every, exists, same_bytes}
use Rattle.rules.specs.Rows.{chop, whole}
use Rattle.rules.specs.Attributes.{Attribute, attribute, attributes, attribute_size, encode_one, is_type, has, readable}
use Rattle.rules.specs.OtherMake.{flags_apart, alike, same_attributes}
use Rattle.rules.proofs.Lists.{eqb_swap, neither, and_left, and_right}
use Rattle.rules.proofs.Blocks.{All, Framed, attribute-encode, attributes-framed}
use Rattle.rules.proofs.Readable.{Good, readable-whole, read-good}
use Rattle.rules.proofs.Reordering.{Once, once_tail}
use Rattle.rules.proofs.Allowing.{alike-whole}
use Rattle.rewriting.specs.Plan.{Whole}
use Rattle.other_make.specs.Finding.{item_of, looked_up}

-- ---- By the bytes of the first of its type

-- An attribute found is whole.
pub found-whole : (t : ℕ) (theirs : List Attribute) → All Framed theirs → is_empty (item_of t theirs) ≡ false → Whole (item_of t theirs)
unfolding item_of
found-whole t [] f e = absurd (true≢false (unfold is_empty in e))
found-whole t (b ∷ theirs) f e = go (is_type t b) e (found-whole t theirs f.1)
  where
    go : (x : Bool) → is_empty (cond x (encode_one b) (item_of t theirs)) ≡ false → (is_empty (item_of t theirs) ≡ false → Whole (item_of t theirs))
        → Whole (cond x (encode_one b) (item_of t theirs))
    go true e ih = unfold encode_one in record { two = omega arith; header = omega (arith, f.0.form, length-append b.len b.value) }
    go false e ih = ih e

-- What is compared of it.
abbrev pub compared_with : Attribute → List ℕ → Bool
compared_with a b = (not (is_empty b) && eqb (flags_apart a.flags) (flags_apart (get_or b 0 0))) && same_bytes a.value (attribute b).value

pub looked-item : (theirs : List Attribute) → All Framed theirs → (a : Attribute) → looked_up theirs a ≡ compared_with a (item_of a.type theirs)
unfolding looked_up item_of
looked-item [] f a = unfold is_empty in refl
looked-item (b ∷ theirs) f a = go (is_type a.type b) refl (looked-item theirs f.1 a)
  where
    here : is_type a.type b ≡ true → alike a b ≡ compared_with a (encode_one b)
    here e =
        unfold alike is_type in
        rw (eqb_swap a.type b.type, e, attribute-encode b f.0) (unfold is_empty encode_one in refl)

    go : (x : Bool) → is_type a.type b ≡ x → looked_up theirs a ≡ compared_with a (item_of a.type theirs)
        → cond x (alike a b) (looked_up theirs a) ≡ compared_with a (cond x (encode_one b) (item_of a.type theirs))
    go true e ih = here e
    go false e ih = ih

-- What the code finds: an attribute of the type, its flags and its value.
module _ (sent : List ℕ) (a : Attribute) {item : List ℕ} (e : item ≡ item_of a.type (attributes sent)) {same : Bool}
    (q : same ≡ not (is_empty item) && eqb (flags_apart a.flags) (flags_apart (get_or item 0 0))) where
  looked : looked_up (attributes sent) a ≡ same && same_bytes a.value (attribute item).value
  looked = looked-item (attributes sent) (attributes-framed sent) a ∙ rw (← e, ← q) refl

  pub looked-other : same ≡ false → false ≡ looked_up (attributes sent) a
  looked-other z = sym (looked ∙ rw z refl)

  module _ (z : same ≡ true) where
    pub looked-whole : Whole item
    looked-whole =
        let n = and_left (not (is_empty item)) (eqb (flags_apart a.flags) (flags_apart (get_or item 0 0))) (sym q ∙ z) in
        rw e (found-whole a.type (attributes sent) (attributes-framed sent) (ap is_empty (sym e) ∙ not-true (is_empty item) n))

    pub looked-value : {v : List ℕ} {r : Bool} → v ≡ (attribute item).value → r ≡ same_bytes a.value v → r ≡ looked_up (attributes sent) a
    looked-value p h = h ∙ ap (same_bytes a.value) p ∙ sym (looked ∙ rw z refl)

-- ---- By what is compared of ours

pub looked-form : (theirs : List Attribute) (a c : Attribute) → a.type ≡ c.type → flags_apart a.flags ≡ flags_apart c.flags → a.value ≡ c.value
    → looked_up theirs a ≡ looked_up theirs c
unfolding looked_up
looked-form [] a c t f v = refl
looked-form (b ∷ theirs) a c t f v =
    ap (λ (k : ℕ). cond (is_type k b) (alike a b) (looked_up theirs a)) t ∙ rw (one, looked-form theirs a c t f v) refl
  where
    one : alike a b ≡ alike c b
    one = unfold alike in rw (t, f, v) refl

-- ---- Among all of theirs

-- An attribute of another type is not alike.
other-type : (a b : Attribute) → is_type a.type b ≡ false → alike a b ≡ false
unfolding alike is_type
other-type a b e = rw (eqb_swap a.type b.type, e) refl

none_alike : (a : Attribute) (theirs : List Attribute) → has a.type theirs ≡ false → exists (alike a) theirs ≡ false
unfolding has exists
none_alike a [] h = refl
none_alike a (b ∷ theirs) h = let n = neither (is_type a.type b) (has a.type theirs) h in rw (other-type a b n.0) (none_alike a theirs n.1)

looked-exists : (theirs : List Attribute) (a : Attribute) → looked_up theirs a ≡ true → exists (alike a) theirs ≡ true
unfolding looked_up exists
looked-exists [] a e = e
looked-exists (b ∷ theirs) a e = go (is_type a.type b) refl e (looked-exists theirs a)
  where
    go : (x : Bool) → is_type a.type b ≡ x → cond x (alike a b) (looked_up theirs a) ≡ true → (looked_up theirs a ≡ true → exists (alike a) theirs ≡ true)
        → alike a b || exists (alike a) theirs ≡ true
    go true q z ih = rw z refl
    go false q z ih = rw (other-type a b q) (ih z)

-- Where no type of theirs comes twice it says all.
exists-looked : (theirs : List Attribute) → Once theirs → (a : Attribute) → exists (alike a) theirs ≡ looked_up theirs a
unfolding looked_up exists
exists-looked [] o a = refl
exists-looked (b ∷ theirs) o a = go (is_type a.type b) refl (exists-looked theirs (once_tail b theirs o).0 a)
  where
    go : (x : Bool) → is_type a.type b ≡ x → exists (alike a) theirs ≡ looked_up theirs a → alike a b || exists (alike a) theirs ≡ cond x (alike a b) (looked_up theirs a)
    go true q ih =
        let t : b.type ≡ a.type = unfold is_type in eqb-true b.type a.type q in
        rw (none_alike a theirs (ap (λ (k : ℕ). has k theirs) (sym t) ∙ (once_tail b theirs o).1)) (or-false (alike a b))
    go false q ih = rw (other-type a b q) ih

-- ---- All of ours

every-looked : (theirs ours : List Attribute) → every (looked_up theirs) ours ≡ true → every (λ a. exists (alike a) theirs) ours ≡ true
unfolding every
every-looked theirs [] e = refl
every-looked theirs (a ∷ ours) e =
    let l = looked_up theirs a in
    let r = every (looked_up theirs) ours in
    rw (looked-exists theirs a (and_left l r e)) (every-looked theirs ours (and_right l r e))

every-same : (theirs : List Attribute) → Once theirs → (ours : List Attribute) → every (λ a. exists (alike a) theirs) ours ≡ every (looked_up theirs) ours
unfolding every
every-same theirs o [] = refl
every-same theirs o (a ∷ ours) = rw (exists-looked theirs o a, every-same theirs o ours) refl

-- Each of ours looked up, no more of theirs, and no overrun: this is what the definition asks.
pub looked-same : {ours : List Attribute} (sent : List ℕ) → Good ours
    → whole (chop attribute_size sent) && (every (looked_up (attributes sent)) ours && leb (length (attributes sent)) (length ours)) ≡ readable sent && same_attributes ours (attributes sent)
looked-same {ours} sent g = go (readable sent) refl
  where
    m : List Attribute
    m = attributes sent

    fewer : Bool
    fewer = leb (length m) (length ours)

    on : readable sent ≡ true → same_attributes ours m ≡ every (looked_up m) ours && fewer
    on r = unfold same_attributes in rw (every-same m (read-good sent r).1.once ours) refl

    off : (w x : Bool) → whole (chop attribute_size sent) ≡ w → every (looked_up m) ours && fewer ≡ x → readable sent ≡ false → w && x ≡ false
    off true true p q r =
        let e = every-looked m ours (and_left (every (looked_up m) ours) fewer q) in
        let s : same_attributes ours m ≡ true = unfold same_attributes in rw e (and_right (every (looked_up m) ours) fewer q) in
        let a : true ≡ readable sent && true = rw (p, s) at (alike-whole sent g) in
        absurd (true≢false (a ∙ rw r refl))
    off true false p q r = refl
    off false x p q r = refl

    go : (z : Bool) → readable sent ≡ z → whole (chop attribute_size sent) && (every (looked_up m) ours && fewer) ≡ z && same_attributes ours m
    go true r = rw (readable-whole sent r) (sym (on r))
    go false r = off (whole (chop attribute_size sent)) (every (looked_up m) ours && fewer) refl refl r
