-- The same attributes in any order and either length form: what the test of it says, and that such attributes make a readable block.
use mathlib.Core.Path.{◌≡◌, refl, sym, ap, ◌∙◌, subst}
use mathlib.Core.Bool.{Bool, true, false, ◌&&◌, ◌||◌, false≢true}
use mathlib.Core.List.{List, [], ◌∷◌, ◌++◌}
use Prim.Native.Nat.{ℕ, suc, ◌+◌, ◌≤◌}
use native.Mathlib.Omega.{arith}
use lib.Dec.{leb, ltb, eqb}
use lib.ListN.{length, length-append}
use borrow.Author.Tests.{eq-eqb, eqb-true, leb-true, le-leb}
use Rattle.rules.specs.Bytes.{every, exists, same_bytes}
use Rattle.rules.specs.Attributes.{Attribute, is_type, has}
use Rattle.rules.specs.OtherMake.{flags_apart, alike, same_attributes, EitherForm, Reordered, none, taken}
use Rattle.rules.proofs.Lists.{bit, and_left, and_right, neither, nil_of_length, keep_append, same_self, same_true}
use Rattle.rules.proofs.Parts.{only, is, count, count_cons, has-count}
use Rattle.rules.proofs.Blocks.{All, Framed}
use Rattle.rules.proofs.Readable.{Fine, Good}

-- ---- One attribute

alike-form : (a b : Attribute) → alike a b ≡ true → EitherForm a b
unfolding alike
alike-form a b e =
    let t = eqb a.type b.type in
    let f = eqb (flags_apart a.flags) (flags_apart b.flags) in
    let v = same_bytes a.value b.value in
    record {
      type = eqb-true a.type b.type (and_left t f (and_left (t && f) v e));
      flags = eqb-true (flags_apart a.flags) (flags_apart b.flags) (and_right t f (and_left (t && f) v e));
      value = same_true a.value b.value (and_right (t && f) v e);
    }

form-alike : {a b : Attribute} → EitherForm a b → alike a b ≡ true
unfolding alike
form-alike {a} {b} f = rw (f.type, f.flags, f.value, eq-eqb b.type b.type refl, eq-eqb (flags_apart b.flags) (flags_apart b.flags) refl) (same_self b.value)

-- ---- One attribute among others

module _ {A : Type 0} (p : A → Bool) where
  -- Whether one passes, by one of them and the others.
  exists_middle : (before : List A) (b : A) (after : List A) → exists p (before ++ (b ∷ after)) ≡ p b || exists p (before ++ after)
  unfolding exists
  exists_middle [] b after = refl
  exists_middle (x ∷ before) b after = rw (exists_middle before b after) (swap (p x) (p b) (exists p (before ++ after)))
    where
      swap : (x y z : Bool) → x || (y || z) ≡ y || (x || z)
      swap true true z = refl
      swap true false z = refl
      swap false y z = refl

  -- One that passes, and what stands before and after it.
  pub record Passes (l : List A) : Type 0 where
    pub before : List A
    pub here : A
    pub after : List A
    pub whole : l ≡ before ++ (here ∷ after)
    pub passes : p here ≡ true

  passes : (l : List A) → exists p l ≡ true → Passes l
  unfolding exists
  passes [] e = absurd (false≢true e)
  passes (x ∷ l) e = go (p x) refl e (passes l)
    where
      go : (y : Bool) → p x ≡ y → y || exists p l ≡ true → (exists p l ≡ true → Passes l) → Passes (x ∷ l)
      go true q z ih = record { before = []; here = x; after = l; whole = refl; passes = q }
      go false q z ih =
          let f = ih z in
          record { before = x ∷ f.before; here = f.here; after = f.after; whole = ap (λ (r : List A). x ∷ r) f.whole; passes = f.passes }

length_middle : {A : Type 0} (before : List A) (b : A) (after : List A) → length (before ++ (b ∷ after)) ≡ suc (length (before ++ after))
length_middle before b after = omega (arith, length-append before (b ∷ after), length-append before after)

-- ---- All of them, where no type of ours comes twice

abbrev pub Once : List Attribute → Type 0
Once l = (t : ℕ) → count t l ≤ 1

pub once_tail : (a : Attribute) (l : List Attribute) → Once (a ∷ l) → Once l × (has a.type l ≡ false)
once_tail a l o =
    (λ t. omega (arith, o t, count_cons (is t) a l), has-count a.type l ∙ ap (ltb 0) {x = count a.type l} {y = 0} (omega (arith, o a.type, count_cons (is a.type) a l, ap bit (eq-eqb a.type a.type refl))))

abbrev among_all : List Attribute → List Attribute → Bool
among_all ours theirs = every (λ a. exists (alike a) theirs) ours

-- What is of a type that none of ours has makes no difference.
among-others : (before : List Attribute) (b : Attribute) (after ours : List Attribute) → has b.type ours ≡ false
    → among_all ours (before ++ (b ∷ after)) ≡ among_all ours (before ++ after)
unfolding every has exists is_type alike
among-others before b after [] h = refl
among-others before b after (c ∷ ours) h =
    let n = neither (eqb c.type b.type) (has b.type ours) h in
    rw (exists_middle (alike c) before b after, n.0, among-others before b after ours n.1) refl

reordered_both : {ours theirs : List Attribute} → Once ours → Reordered ours theirs → (among_all ours theirs ≡ true) × (length theirs ≡ length ours)
unfolding every
reordered_both o none = (refl, refl)
reordered_both {theirs = theirs} o (taken {a} {b} {ours} before after f e r) =
    let t = once_tail a ours o in
    let ih = reordered_both t.0 r in
    let others : among_all ours (before ++ (b ∷ after)) ≡ true = among-others before b after ours (ap (λ (k : ℕ). has k ours) (sym f.type) ∙ t.1) ∙ ih.0 in
    let middle : exists (alike a) (before ++ (b ∷ after)) ≡ true = rw (exists_middle (alike a) before b after, form-alike f) refl in
    (subst (λ (l : List Attribute). among_all (a ∷ ours) l ≡ true) (sym e) (ap (λ (x : Bool). x && among_all ours (before ++ (b ∷ after))) middle ∙ others), omega (arith, ap length e, length_middle before b after, ih.1))

both_reordered : (ours theirs : List Attribute) → Once ours → among_all ours theirs ≡ true → length theirs ≤ length ours → Reordered ours theirs
unfolding every
both_reordered [] theirs o e h = subst (Reordered []) (sym (nil_of_length theirs (omega arith))) none
both_reordered (a ∷ ours) theirs o e h =
    let t = once_tail a ours o in
    let f = passes (alike a) theirs (and_left (exists (alike a) theirs) (among_all ours theirs) e) in
    let k = alike-form a f.here f.passes in
    let r : among_all ours (f.before ++ (f.here ∷ f.after)) ≡ true = subst (λ (m : List Attribute). among_all ours m ≡ true) f.whole (and_right (exists (alike a) theirs) (among_all ours theirs) e) in
    taken f.before f.after k f.whole
    (both_reordered ours (f.before ++ f.after) t.0
    (sym (among-others f.before f.here f.after ours (ap (λ (k : ℕ). has k ours) (sym k.type) ∙ t.1)) ∙ r)
    (omega (arith, ap length f.whole, length_middle f.before f.here f.after)))

-- The test of the definition says so, both ways.
module _ {ours theirs : List Attribute} (o : Once ours) where
  pub reordered_same : Reordered ours theirs → same_attributes ours theirs ≡ true
  unfolding same_attributes
  reordered_same r = let h = reordered_both o r in rw h.0 (le-leb (length theirs) (length ours) (omega (arith, h.1)))

  pub same_reordered : same_attributes ours theirs ≡ true → Reordered ours theirs
  unfolding same_attributes
  same_reordered e =
      let n = leb (length theirs) (length ours) in
      both_reordered ours theirs o (and_left (among_all ours theirs) n e) (leb-true (length theirs) (length ours) (and_right (among_all ours theirs) n e))

pub reordered_self : (l : List Attribute) → Reordered l l
reordered_self [] = none
reordered_self (a ∷ l) = taken [] l (record { type = refl; flags = refl; value = refl }) refl (reordered_self l)

-- ---- A readable block

module _ (P : Attribute → Type 0) where
  all_middle : (before : List Attribute) (b : Attribute) (after : List Attribute) → P b → All P (before ++ after) → All P (before ++ (b ∷ after))
  all_middle [] b after p h = (p, h)
  all_middle (x ∷ before) b after p h = (h.0, all_middle before b after p h.1)

  all_apart : (before : List Attribute) (b : Attribute) (after : List Attribute) → All P (before ++ (b ∷ after)) → P b × All P (before ++ after)
  all_apart [] b after h = h
  all_apart (x ∷ before) b after h = let k = all_apart before b after h.1 in (k.0, (h.0, k.1))

fine_reordered : {ours theirs : List Attribute} → Reordered ours theirs → All Fine ours → All Framed theirs → All Fine theirs
fine_reordered none h k = tt
fine_reordered (taken {a} {b} before after f e r) h k =
    let w = all_apart Framed before b after (subst (All Framed) e k) in
    subst (All Fine) (sym e) (all_middle Fine before b after (w.0, rw (← f.type, ← f.value) h.0.1) (fine_reordered r h.1 w.1))

pub count_middle : (t : ℕ) (before : List Attribute) (b : Attribute) (after : List Attribute)
    → count t (before ++ (b ∷ after)) ≡ bit (eqb b.type t) + count t (before ++ after)
count_middle t before b after =
    omega (
      arith,
      ap length (keep_append (λ (x : Attribute). eqb x.type t) before (b ∷ after)),
      ap length (keep_append (λ (x : Attribute). eqb x.type t) before after),
      length-append (only (is t) before) (only (is t) (b ∷ after)),
      length-append (only (is t) before) (only (is t) after),
      count_cons (is t) b after,
    )

pub count_reordered : (t : ℕ) {ours theirs : List Attribute} → Reordered ours theirs → count t theirs ≡ count t ours
count_reordered t none = refl
count_reordered t (taken {a} {b} {ours} before after f e r) =
    omega (arith, ap (count t) e, count_middle t before b after, count_cons (is t) a ours, ap (λ (k : ℕ). bit (eqb k t)) f.type, count_reordered t r)

-- Good attributes are so in any order and either length form, where the length bytes are right.
pub good_reordered : {ours theirs : List Attribute} → Reordered ours theirs → Good ours → All Framed theirs → Good theirs
good_reordered r g k =
    record {
      each = fine_reordered r g.each k;
      once = λ t. omega (arith, count_reordered t r, g.once t);
      origin = omega (arith, count_reordered 1 r, g.origin);
      as_path = omega (arith, count_reordered 2 r, g.as_path);
    }
