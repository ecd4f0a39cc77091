-- 02, Q-12, and beyond it: receipt of an allowed block is refused as that of ours is, or not at all.
use mathlib.Core.Path.{◌≡◌, refl, sym, ap, ◌∙◌}
use mathlib.Core.Bool.{Bool, true, false, cond, ◌&&◌}
use mathlib.Core.List.{List, [], ◌∷◌, ◌++◌}
use Prim.Native.Nat.{ℕ, ◌≤◌}
use native.Mathlib.Omega.{arith}
use lib.Dec.{ltb, eqb}
use lib.ListN.{length}
use borrow.Author.Tests.{le-ltb, eqb-true}
use Rattle.rules.specs.Answers.{Answer, refused, number, Check, first, answer, order, refusals}
use Rattle.rules.specs.Settings.{block_max, session_ok}
use Rattle.rules.specs.Attributes.{Attribute, attributes, encode, is_type, has, value_of, has_otc, otc_as, fault, readable, otc_type}
use Rattle.rules.specs.Changes.{block_checks}
use Rattle.rules.specs.Receipt.{receipt_rules, receipt_verdict}
use Rattle.rules.specs.Sending.{sending_result}
use Rattle.rules.specs.OtherMake.{Reordered, none, taken, Conforms, ReceivedAlike}
use Rattle.rules.proofs.Parts.{is, count, count_cons, has-count}
use Rattle.rules.proofs.Lists.{bit}
use Rattle.rules.proofs.Readable.{Good, good-fault, read_back}
use Rattle.rules.proofs.Reordering.{count_middle, count_reordered}
use Rattle.rules.proofs.Allowing.{sized-made, same-readable, yes_exactly}

-- A refusal is by the checks alone.
module _ {A : Type 0} where
  first-refusals : (k : ℕ) (cs : List Check) (p q : Answer A) → refusals p ≡ refusals q → refusals (first k cs p) ≡ refusals (first k cs q)
  unfolding first
  first-refusals k [] p q e = e
  first-refusals k (c ∷ cs) p q e = go (eqb (number c.refusal) k && c.applies) (first-refusals k cs p q e)
    where
      go : (x : Bool) → refusals (first k cs p) ≡ refusals (first k cs q)
          → refusals (cond x (refused c.refusal) (first k cs p)) ≡ refusals (cond x (refused c.refusal) (first k cs q))
      go true ih = refl
      go false ih = ih

  answer-refusals : (o : List ℕ) (cs : List Check) (x y : A) → refusals (answer o cs x) ≡ refusals (answer o cs y)
  unfolding answer
  answer-refusals [] cs x y = unfold refusals in refl
  answer-refusals (k ∷ o) cs x y = first-refusals k cs _ _ (answer-refusals o cs x y)

  same_checks : (o : List ℕ) {cs ds : List Check} (x y : A) → cs ≡ ds → refusals (answer o cs x) ≡ refusals (answer o ds y)
  same_checks o {ds = ds} x y e = ap (λ (c : List Check). refusals (answer o c x)) e ∙ answer-refusals o ds x y

-- The value of a type that comes at most once, by one attribute and the others.
value_middle : (t : ℕ) (before : List Attribute) (b : Attribute) (after : List Attribute) → count t (before ++ (b ∷ after)) ≤ 1
    → value_of t (before ++ (b ∷ after)) ≡ cond (is_type t b) b.value (value_of t (before ++ after))
unfolding value_of
value_middle t [] b after h = refl
value_middle t (x ∷ before) b after h = go (is_type t x) (is_type t b) refl refl (value_middle t before b after (omega (arith, count_cons (is t) x (before ++ (b ∷ after)))))
  where
    go : (y z : Bool) → is_type t x ≡ y → is_type t b ≡ z → value_of t (before ++ (b ∷ after)) ≡ cond (is_type t b) b.value (value_of t (before ++ after))
        → cond y x.value (value_of t (before ++ (b ∷ after))) ≡ cond z b.value (cond y x.value (value_of t (before ++ after)))
    go true true e f ih =
        unfold is_type in
        absurd (omega (arith, h, count_cons (is t) x (before ++ (b ∷ after)), ap bit e, count_middle t before b after, ap bit f))
    go true false e f ih = refl
    go false z e f ih = ih ∙ ap (λ (w : Bool). cond w b.value (value_of t (before ++ after))) f

value_reordered : (t : ℕ) {ours theirs : List Attribute} → count t ours ≤ 1 → Reordered ours theirs → value_of t theirs ≡ value_of t ours
unfolding value_of is_type
value_reordered t h none = refl
value_reordered t h (taken {a} {b} {ours} {theirs} before after f e r) =
    let n : count t (before ++ (b ∷ after)) ≤ 1 = omega (arith, h, count_reordered t (taken before after f e r), ap (count t) e) in
    ap (value_of t) e ∙ value_middle t before b after n
    ∙ rw (← f.type, ← f.value, value_reordered t (omega (arith, h, count_cons (is t) a ours)) r) refl

pub received-alike : ReceivedAlike
unfolding receipt_verdict
received-alike s receiver source state b sent e =
    let c = (yes_exactly s source state b sent).0 e in
    let g = sized-made s source state b c.answered in
    same_checks order _ _ (same c g.0 g.1)
  where
    own : List Attribute
    own = sending_result s source state (attributes b)

    same : Conforms s source state b sent → Good own → length (encode own) ≤ block_max
        → block_checks (session_ok receiver) sent ++ receipt_rules receiver (attributes sent) ≡ block_checks (session_ok receiver) (encode own) ++ receipt_rules receiver (attributes (encode own))
    same c g h =
        unfold block_checks receipt_rules has_otc otc_as in
        rw (read_back own g, good-fault own g, clean, otc, value, le-ltb block_max (length sent) c.short, le-ltb block_max (length (encode own)) h) refl
      where
        clean : fault sent ≡ 0
        clean = unfold readable in eqb-true (fault sent) 0 (same-readable sent g c.ends c.same)

        otc : has otc_type (attributes sent) ≡ has otc_type own
        otc = has-count otc_type (attributes sent) ∙ ap (ltb 0) (count_reordered otc_type c.same) ∙ sym (has-count otc_type own)

        value : value_of otc_type (attributes sent) ≡ value_of otc_type own
        value = value_reordered otc_type (g.once otc_type) c.same
