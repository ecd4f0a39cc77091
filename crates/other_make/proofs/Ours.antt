-- All of our attributes looked up, part by part, and what that answers.
use mathlib.Core.Path.{◌≡◌, refl, ◌∙◌, subst}
use mathlib.Core.Bool.{Bool, true, false, cond, ◌&&◌, and-false}
use mathlib.Core.List.{List}
use Prim.Native.Nat.{ℕ, ◌+◌, ◌≤◌, ◌<◌}
use native.Mathlib.Omega.{arith}
use lib.Dec.{leb}
use lib.ListN.{length}
use borrow.Author.Tests.{le-leb, lt-leb}
use Rattle.rules.specs.Bytes.{every}
use Rattle.rules.specs.Rows.{chop, whole}
use Rattle.rules.specs.Answers.{done, refused}
use Rattle.rules.specs.Settings.{block_max}
use Rattle.rules.specs.Attributes.{Attribute, attributes, attribute_size, encode, has_otc, long, readable}
use Rattle.rules.specs.Changes.{rewritten}
use Rattle.rules.specs.OtherMake.{yes, no}
use Rattle.rules.specs.declared.Refusal.TheVariants.{NoRoom}
use Rattle.rules.proofs.Readable.{Good, read-good}
use Rattle.rules.proofs.Dropping.{left}
use Rattle.rules.proofs.Rewriting.{rewritten-keeps}
use Rattle.rules.proofs.Room.{tag_picked}
use Rattle.settings.specs.Told.{told_tag, told_otc}
use Rattle.communities.specs.declared.tags.Dropping.TheVariants.{AllTags}
use Rattle.communities.specs.Tags.{drop_test}
use Rattle.rewriting.specs.Plan.{turned_all, new_tags, new_otcs, outgoing}
use Rattle.rewriting.proofs.Outgoing.{rewritten-every, rewritten-count}
use Rattle.other_make.specs.Finding.{looked_up, FindsFrom, AtMost, Counts, comparison}
use Rattle.std.specs.Prelude.{Option, Some, None}
use Rattle.other_make.proofs.Lookups.{looked-same}

pub at_most : {r : Option ℕ} {n : ℕ} → r ≡ Some n → (k : ℕ) → AtMost k r → n ≤ k
at_most z k h = subst (AtMost k) z h

-- ---- The parts: those of the block, a new tag, a new OTC

module _ (theirs l : List Attribute) (flags s : ℕ) (asn : Option ℕ) {left_over : ℕ} {otc : Option ℕ} (p : left_over ≡ length (left (drop_test AllTags) l)) (q : otc ≡ cond (has_otc l) None asn) where
  abbrev out : List Attribute
  out = rewritten (drop_test AllTags) flags (told_tag s) (told_otc asn) l

  abbrev old : List Attribute
  old = turned_all (drop_test AllTags) s l

  tested : every (looked_up theirs) out ≡ every (looked_up theirs) old && (every (looked_up theirs) (new_tags flags left_over s) && every (looked_up theirs) (new_otcs flags otc))
  tested = rw (p, q) (rewritten-every (drop_test AllTags) flags s l asn (looked_up theirs))

  counted : length out ≡ length old + length (new_tags flags left_over s) + length (new_otcs flags otc)
  counted = rw (p, q) (rewritten-count (drop_test AllTags) flags s l asn)

  -- One of the block's is missing.
  pub ours-turned : {r : Option ℕ} → r ≡ None → FindsFrom 0 theirs old r → FindsFrom 0 theirs out None
  ours-turned z f = let m : every (looked_up theirs) old ≡ false = subst (FindsFrom 0 theirs old) z f in tested ∙ rw m refl

  module _ {r : Option ℕ} {k : ℕ} (z : r ≡ Some k) (f : FindsFrom 0 theirs old r) where
    old-found : FindsFrom 0 theirs old (Some k)
    old-found = subst (FindsFrom 0 theirs old) z f

    -- The new tag is.
    pub ours-tagged : {t : Option ℕ} → t ≡ None → FindsFrom k theirs (new_tags flags left_over s) t → FindsFrom 0 theirs out None
    ours-tagged y g =
        let m : every (looked_up theirs) (new_tags flags left_over s) ≡ false = subst (FindsFrom k theirs (new_tags flags left_over s)) y g in
        tested ∙ rw m (and-false (every (looked_up theirs) old))

    -- All but for the new OTC are found.
    pub ours-found : {t : Option ℕ} {n : ℕ} → t ≡ Some n → FindsFrom k theirs (new_tags flags left_over s) t → (u : Option ℕ) → FindsFrom n theirs (new_otcs flags otc) u → FindsFrom 0 theirs out u
    ours-found {n = n} y g u h = go u h
      where
        tags : FindsFrom k theirs (new_tags flags left_over s) (Some n)
        tags = subst (FindsFrom k theirs (new_tags flags left_over s)) y g

        go : (u : Option ℕ) → FindsFrom n theirs (new_otcs flags otc) u → FindsFrom 0 theirs out u
        go (Some m) h = (tested ∙ rw (old-found.0, tags.0) h.0, omega (arith, counted, old-found.1, tags.1, h.1))
        go None h = tested ∙ rw (old-found.0, tags.0) h

-- What goes out of a readable block is readable.
pub ours-good : (b : List ℕ) (flags s : ℕ) (asn : Option ℕ) → readable b ≡ true → long flags ≡ false → Good (outgoing AllTags flags s asn b)
unfolding drop_test
ours-good b flags s asn r short =
    (rewritten-keeps flags short _ _ (λ c e. e) (told_tag s) (told_otc asn) (tag_picked (told_tag s)) (attributes b) (read-good b r).1).good

-- ---- What comparing answers

module _ (ours : List Attribute) (sent : List ℕ) where
  pub compared-long : block_max < length (encode ours) → refused NoRoom ≡ comparison ours sent
  unfolding comparison
  compared-long h = rw (lt-leb (length (encode ours)) block_max h) refl

  module _ (h : length (encode ours) ≤ block_max) (g : Good ours) where
    answered : (x : Bool) → whole (chop attribute_size sent) && (every (looked_up (attributes sent)) ours && leb (length (attributes sent)) (length ours)) ≡ x
        → done (cond x yes no) ≡ comparison ours sent
    unfolding comparison
    answered x e = rw (le-leb (length (encode ours)) block_max h, ← looked-same sent g, e) refl

    pub compared_missing : {r : Option ℕ} → r ≡ None → FindsFrom 0 (attributes sent) ours r → done no ≡ comparison ours sent
    compared_missing z f =
        let m : every (looked_up (attributes sent)) ours ≡ false = subst (FindsFrom 0 (attributes sent) ours) z f in
        answered false (rw m (and-false (whole (chop attribute_size sent))))

    pub compared_overrun : {c : Option ℕ} → c ≡ None → Counts sent c → done no ≡ comparison ours sent
    compared_overrun z k = let m : whole (chop attribute_size sent) ≡ false = subst (Counts sent) z k in answered false (rw m refl)

    module _ {r : Option ℕ} {n : ℕ} (z : r ≡ Some n) (f : FindsFrom 0 (attributes sent) ours r) {c : Option ℕ} {k : ℕ} (y : c ≡ Some k) (w : Counts sent c) where
      found : FindsFrom 0 (attributes sent) ours (Some n)
      found = subst (FindsFrom 0 (attributes sent) ours) z f

      counts : Counts sent (Some k)
      counts = subst (Counts sent) y w

      pub compared_by : done (cond (leb k n) yes no) ≡ comparison ours sent
      compared_by =
          let ours-many : n ≡ length ours = omega (arith, found.1) in
          answered (leb k n) (rw (counts.0, found.0, counts.1, ours-many) refl)
