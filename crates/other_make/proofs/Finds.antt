-- Some of our attributes looked up: one, none, and those of a block one after the other as they go out.
use mathlib.Core.Path.{◌≡◌, refl, sym, ap, ◌∙◌, subst}
use mathlib.Core.Bool.{Bool, true, false, cond, ◌&&◌, true≢false}
use mathlib.Core.List.{List, [], ◌∷◌, ◌++◌, flat_map}
use Prim.Native.Nat.{ℕ, ◌+◌, ◌-◌, ◌≤◌, ◌<◌}
use native.Mathlib.Omega.{arith}
use lib.Dec.{leb}
use lib.ListN.{length, take, drop, length-append}
use borrow.Author.Tests.{eqb-true}
use Rattle.rules.specs.Bytes.{is_empty, every, exists, bytes2}
use Rattle.rules.specs.Rows.{fit, chop, whole}
use Rattle.rules.specs.Attributes.{Attribute, attribute, attributes, attribute_size, is_type, has, long, value_of, readable, communities_type}
use Rattle.rules.specs.Changes.{drop_from, with_value}
use Rattle.rules.specs.OtherMake.{flags_apart}
use Rattle.rules.proofs.Lists.{every_append, neither, nil_of_length, is_empty_not}
use Rattle.rules.proofs.Values.{anew, long-set}
use Rattle.rules.proofs.Blocks.{All as Each}
use Rattle.rules.proofs.Readable.{read-good, readable-whole}
use Rattle.rules.proofs.Reordering.{Once, once_tail}
use Rattle.attributes.specs.Layout.{SizeAt}
use Rattle.attributes.proofs.Sizes.{item-least}
use Rattle.communities.specs.declared.tags.Dropping.TheVariants.{AllTags}
use Rattle.communities.specs.Tags.{drop_test, tag_bytes}
use Rattle.rewriting.specs.Plan.{turned, turned_all}
use Rattle.other_make.specs.Finding.{looked_up, compared, FindsFrom, AtMost, LeavesBytes}
use Rattle.std.specs.Prelude.{Option, Some, None}
use Rattle.std.specs.Bool.{then_some}
use Rattle.other_make.proofs.Walks.{walk_end, walk_torn, walk_next}
use Rattle.other_make.proofs.Lookups.{looked-form}

-- ---- One, and none

module _ (theirs : List Attribute) (k : ℕ) where
  pub finds_one : (a : Attribute) {r : Option ℕ} {found : Bool} → r ≡ then_some found (k + 1) → found ≡ looked_up theirs a
      → FindsFrom k theirs (a ∷ []) r × AtMost (k + 1) r
  finds_one a {r} {found} e q = subst (λ (r : Option ℕ). FindsFrom k theirs (a ∷ []) r × AtMost (k + 1) r) (sym e) (go found q)
    where
      go : (x : Bool) → x ≡ looked_up theirs a → FindsFrom k theirs (a ∷ []) (then_some x (k + 1)) × AtMost (k + 1) (then_some x (k + 1))
      go true z = unfold every in ((rw (← z) refl, refl), omega arith)
      go false z = unfold every in (rw (← z) refl, tt)

  pub finds_none : FindsFrom k theirs [] (Some k) × AtMost (k + 1) (Some k)
  unfolding every
  finds_none = ((refl, omega arith), omega arith)

-- ---- One attribute of a block as it goes out

-- A new length form leaves the other flags.
flags-anew : (a : Attribute) (v : List ℕ) → flags_apart (with_value a v).flags ≡ flags_apart a.flags
unfolding with_value flags_apart
flags-anew a v = go (long a.flags) (leb (length v) 255) refl
  where
    new : Bool → Bool → Attribute
    new x y =
        cond x (record { flags = a.flags; type = a.type; len = bytes2 (length v); value = v })
        (cond y (record { flags = a.flags; type = a.type; len = length v ∷ []; value = v })
        (record { flags = a.flags + 0x10; type = a.type; len = bytes2 (length v); value = v }))

    go : (x y : Bool) → long a.flags ≡ x → cond (long (new x y).flags) ((new x y).flags - 0x10) (new x y).flags ≡ cond x (a.flags - 0x10) a.flags
    go true y e = rw e refl
    go false true e = rw e refl
    go false false e = rw (long-set a.flags e) (omega arith)

module _ (theirs : List Attribute) (state : ℕ) (a : Attribute) where
  -- Any but communities stands as it is.
  pub looked-other-type : is_type communities_type a ≡ false → turned (drop_test AllTags) state a ≡ a ∷ []
  unfolding turned
  looked-other-type e = rw e refl

  module _ (e : is_type communities_type a ≡ true) {left : ℕ} (l : LeavesBytes left a) where
    -- Communities of which none is left are gone.
    pub turned-gone : left ≡ 0 → turned (drop_test AllTags) state a ≡ []
    unfolding turned
    turned-gone z = rw (e, nil_of_length (drop_from (drop_test AllTags) a.value) (omega (arith, l e))) (unfold is_empty in refl)

    -- Others are looked up by their flags and by what is left, with the tag.
    pub turned_left : (left ≡ 0 → ⊥) → turned (drop_test AllTags) state a ≡ with_value a (drop_from (drop_test AllTags) a.value ++ tag_bytes state) ∷ []
    unfolding turned
    turned_left z = rw (e, is_empty_not (drop_from (drop_test AllTags) a.value) (omega (arith, l e))) refl

    pub looked-left : looked_up theirs (compared a.flags communities_type (drop_from (drop_test AllTags) a.value ++ tag_bytes state))
        ≡ looked_up theirs (with_value a (drop_from (drop_test AllTags) a.value ++ tag_bytes state))
    unfolding is_type
    looked-left =
        let v : List ℕ = drop_from (drop_test AllTags) a.value ++ tag_bytes state in
        looked-form theirs (compared a.flags communities_type v) (with_value a v) (sym ((anew a v).type ∙ eqb-true a.type communities_type e)) (sym (flags-anew a v)) (sym (anew a v).value)

-- ---- The attributes of a block one after the other

-- How many bytes of communities are left, by the one attribute that has them.
leaves_none : (left : ℕ) (l : List Attribute) → has communities_type l ≡ false → Each (LeavesBytes left) l
unfolding has exists
leaves_none left [] h = tt
leaves_none left (a ∷ l) h =
    let n = neither (is_type communities_type a) (has communities_type l) h in
    (λ z. absurd (true≢false (sym z ∙ n.0)), leaves_none left l n.1)

leaves-each : (l : List Attribute) → Once l → {left : ℕ} → left ≡ length (drop_from (drop_test AllTags) (value_of communities_type l)) → Each (LeavesBytes left) l
unfolding value_of
leaves-each [] o e = tt
leaves-each (a ∷ l) o {left} e = go (is_type communities_type a) refl e (leaves-each l (once_tail a l o).0)
  where
    go : (x : Bool) → is_type communities_type a ≡ x → left ≡ length (drop_from (drop_test AllTags) (cond x a.value (value_of communities_type l)))
        → (left ≡ length (drop_from (drop_test AllTags) (value_of communities_type l)) → Each (LeavesBytes left) l) → LeavesBytes left a × Each (LeavesBytes left) l
    go true q z ih =
        let k : a.type ≡ communities_type = unfold is_type in eqb-true a.type communities_type q in
        (λ w. z, leaves_none left l (ap (λ (k : ℕ). has k l) (sym k) ∙ (once_tail a l o).1))
    go false q z ih = (λ w. absurd (true≢false (sym w ∙ q)), ih z)

-- So far all are found, and what is to come is the rest.
pub record Finding (b : List ℕ) (left state : ℕ) (theirs : List Attribute) (at found : ℕ) : Type 0 where
  pub few : found ≤ at
  pub within : at ≤ length b
  pub ends : whole (chop attribute_size (drop at b)) ≡ true
  pub leaves : Each (LeavesBytes left) (attributes (drop at b))
  pub same : every (looked_up theirs) (turned_all (drop_test AllTags) state (attributes b)) ≡ every (looked_up theirs) (turned_all (drop_test AllTags) state (attributes (drop at b)))
  pub counted : length (turned_all (drop_test AllTags) state (attributes b)) ≡ found + length (turned_all (drop_test AllTags) state (attributes (drop at b)))

pub finding_start : (b : List ℕ) (left state : ℕ) (theirs : List Attribute) → readable b ≡ true → left ≡ length (drop_from (drop_test AllTags) (value_of communities_type (attributes b)))
    → Finding b left state theirs 0 0
finding_start b left state theirs r e =
    record {
      few = omega arith;
      within = omega arith;
      ends = readable-whole b r;
      leaves = leaves-each (attributes b) (read-good b r).1.once e;
      same = refl;
      counted = omega arith;
    }

module _ {b : List ℕ} {left state : ℕ} {theirs : List Attribute} {at found : ℕ} (w : Finding b left state theirs at found) where
  pub finding-end : length b ≤ at → FindsFrom 0 theirs (turned_all (drop_test AllTags) state (attributes b)) (Some found) × AtMost (length b) (Some found)
  unfolding turned_all flat_map every
  finding-end h =
      let l = (walk_end b at h).0 in
      ((w.same ∙ rw l refl, omega (arith, w.counted, ap (λ (m : List Attribute). length (turned_all (drop_test AllTags) state m)) l)), omega (arith, w.few, w.within))

  module _ (h : at < length b) {n : ℕ} (sized : SizeAt b at n) where
    e : n ≡ fit attribute_size (drop at b)
    e = sized.is

    -- No attribute is cut off.
    pub finding-fits : n ≡ 0 → ⊥
    finding-fits z = true≢false (sym w.ends ∙ (walk_torn b at e h z).1)

    pub finding-room : at + n ≤ length b
    finding-room = sized.within finding-fits

    abbrev item : Attribute
    item = attribute (take (at + n - at) (drop at b))

    pub finding-leaves : LeavesBytes left item
    finding-leaves = (subst (Each (LeavesBytes left)) (walk_next b at e finding-fits).0 w.leaves).0

    here : turned_all (drop_test AllTags) state (attributes (drop at b)) ≡ turned (drop_test AllTags) state item ++ turned_all (drop_test AllTags) state (attributes (drop (at + n) b))
    unfolding turned_all flat_map
    here = ap (λ (m : List Attribute). turned_all (drop_test AllTags) state m) (walk_next b at e finding-fits).0

    tested : every (looked_up theirs) (turned_all (drop_test AllTags) state (attributes b))
        ≡ every (looked_up theirs) (turned (drop_test AllTags) state item) && every (looked_up theirs) (turned_all (drop_test AllTags) state (attributes (drop (at + n) b)))
    tested = w.same ∙ ap (every (looked_up theirs)) here ∙ every_append (looked_up theirs) (turned (drop_test AllTags) state item) _

    pub finding_missing : {r : Option ℕ} → r ≡ None → FindsFrom found theirs (turned (drop_test AllTags) state item) r
        → FindsFrom 0 theirs (turned_all (drop_test AllTags) state (attributes b)) None
    finding_missing z q = let m : every (looked_up theirs) (turned (drop_test AllTags) state item) ≡ false = subst (FindsFrom found theirs (turned (drop_test AllTags) state item)) z q in tested ∙ rw m refl

    pub finding-next : {k : ℕ} {r : Option ℕ} → r ≡ Some k → FindsFrom found theirs (turned (drop_test AllTags) state item) r × AtMost (found + 1) r
        → Finding b left state theirs (at + n) k
    finding-next {k} z p =
        let q : FindsFrom found theirs (turned (drop_test AllTags) state item) (Some k) × AtMost (found + 1) (Some k) =
        subst (λ (r : Option ℕ). FindsFrom found theirs (turned (drop_test AllTags) state item) r × AtMost (found + 1) r) z p in
        let l = walk_next b at e finding-fits in
        record {
          few = omega (arith, w.few, q.1, item-least (drop at b) e finding-fits);
          within = finding-room;
          ends = sym l.1 ∙ w.ends;
          leaves = (subst (Each (LeavesBytes left)) l.0 w.leaves).1;
          same = tested ∙ rw q.0.0 refl;
          counted =
              omega (
                arith,
                w.counted,
                q.0.1,
                ap length here,
                length-append (turned (drop_test AllTags) state item) (turned_all (drop_test AllTags) state (attributes (drop (at + n) b))),
              );
        }
