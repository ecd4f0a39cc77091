-- 02, Q-12: what the check of another make answers, way by way; that it says yes exactly where the block conforms; and that our own block does.
use mathlib.Core.Path.{◌≡◌, refl, sym, ap, ◌∙◌, subst}
use mathlib.Core.Bool.{Bool, true, false, cond, ◌&&◌, and-false, false≢true, true≢false}
use mathlib.Core.List.{List, [], ◌∷◌}
use Prim.Native.Nat.{ℕ, ◌≤◌, ◌<◌}
use native.Mathlib.Omega.{arith}
use lib.Dec.{eqb}
use lib.ListN.{length, take}
use borrow.Author.Tests.{lt-ltb, le-ltb, ltb-false}
use Rattle.rules.specs.Bytes.{is_empty, exists, one_of}
use Rattle.rules.specs.Rows.{chop, whole}
use Rattle.rules.specs.Answers.{Answer, done, refused, number, answer, order, first, ◌when◌, refusals}
use Rattle.rules.specs.Settings.{block_max, session_ok, source_ok, state_ok}
use Rattle.rules.specs.Attributes.{Attribute, attributes, attribute_size, encode, readable}
use Rattle.rules.specs.Changes.{too_long, block_checks}
use Rattle.rules.specs.Sending.{sending_rules, sending_result, sending_verdict, measured, send_size}
use Rattle.rules.specs.OtherMake.{same_attributes, yes, no, withheld_is_no, allowed, Reordered, Conforms, YesExactly, OwnAllowed}
use Rattle.rules.specs.declared.Refusal.{Refusal}
use Rattle.rules.specs.declared.Refusal.TheVariants.{Withheld, BadSetting, BadLength, NoRoom}
use Rattle.rules.specs.declared.Session.{Session}
use Rattle.rules.proofs.Answers.{here, earlier, answer-decided, answer-passed, answer-done, answer-past, answer-refused, order-whole, Passed}
use Rattle.rules.proofs.Buffers.{leaves-stored}
use Rattle.rules.proofs.Agreeing.{agreement}
use Rattle.rules.proofs.Lists.{and_left, and_right}
use Rattle.rules.proofs.Blocks.{all_map, attributes-framed, encode-attributes, chop-encode}
use Rattle.rules.proofs.Readable.{Good, good-readable, readable-whole, read_back}
use Rattle.rules.proofs.Unaltered.{sending_keeps}
use Rattle.rules.proofs.Reordering.{reordered_same, same_reordered, reordered_self, good_reordered}

-- An answer through another: its refusal, or the result.
answer_through : {A B : Type 0} (told : Answer A) (x : B) {r : Refusal} → told ≡ refused r → answer order (refusals told) x ≡ refused r
unfolding refusals
answer_through told x {r} e = rw e (answer-decided order x (order-whole r) (here refl refl tt))

-- A refusal that does not go before 6.
abbrev Late : Refusal → Type 0
Late r = one_of (earlier order 6) (number r) ≡ false

module _ (s : Session) (source state : ℕ) (b sent : List ℕ) where
  abbrev pub alike_sent : Bool
  alike_sent = readable sent && same_attributes (sending_result s source state (attributes b)) (attributes sent)

  -- 5 goes before a 6 for the block sent, and the 6 of either block is the same.
  pub allowed_setting : send_size s source state b ≡ refused BadSetting → allowed s source state b sent ≡ refused BadSetting
  unfolding allowed refusals withheld_is_no answer order first number
  allowed_setting e = rw e refl

  pub allowed-length : send_size s source state b ≡ refused BadLength → allowed s source state b sent ≡ refused BadLength
  unfolding allowed refusals withheld_is_no answer order first number
  allowed-length e = rw e (go (too_long sent))
    where
      go : (x : Bool) → withheld_is_no (answer order (BadLength when x ∷ BadLength when true ∷ []) (cond alike_sent yes no)) ≡ refused BadLength
      go true = refl
      go false = refl

  -- With valid settings sending refuses by no number that goes before 6.
  size_late : session_ok s && source_ok source && state_ok state ≡ true → (r : Refusal) → send_size s source state b ≡ refused r → Late r
  unfolding send_size
  size_late e r z = go (sending_verdict s source state b) refl z
    where
      decided : (k : Refusal) → sending_verdict s source state b ≡ refused k → Late k
      decided k p =
          unfold sending_verdict block_checks sending_rules one_of exists earlier order number in
          answer-refused Late order _ (sending_result s source state (attributes b)) k (refl, (refl, (refl, (refl, (refl, tt)))))
          (sym (answer-past order BadSetting _ _) ∙ (rw e at p))

      go : (d : Answer (List Attribute)) → sending_verdict s source state b ≡ d → measured d ≡ refused r → Late r
      go (done l) p q = unfold measured in answer-refused Late order _ _ r ((unfold one_of exists earlier order number in refl), tt) q
      go (refused k) p q = unfold measured in (let w : k ≡ r = cc in subst Late w (decided k p))

  -- 6 for the block sent goes before all else that sending refuses by then.
  pub allowed-sent-length : session_ok s && source_ok source && state_ok state ≡ true → block_max < length sent → allowed s source state b sent ≡ refused BadLength
  unfolding allowed
  allowed-sent-length e h = go (send_size s source state b) (size_late e)
    where
      go : (d : Answer ℕ) → ((r : Refusal) → d ≡ refused r → Late r)
          → withheld_is_no (answer order (BadLength when too_long sent ∷ refusals d) (cond alike_sent yes no)) ≡ refused BadLength
      go (done n) k = unfold refusals withheld_is_no answer order first number in rw (lt-ltb block_max (length sent) h) refl
      go (refused r) k =
          unfold refusals withheld_is_no number in
          ap withheld_is_no
          (answer-decided order _ (order-whole BadLength) (here refl (lt-ltb block_max (length sent) h) (λ u. absurd (false≢true (sym (k r refl) ∙ u)), tt)))

  -- A block sent that is not too long: what sending refuses, but that a route it withholds is a no; and else whether the attributes are the same.
  module _ (h : length sent ≤ block_max) where
    by_sending : allowed s source state b sent ≡ withheld_is_no (answer order (refusals (send_size s source state b)) (cond alike_sent yes no))
    unfolding allowed
    by_sending = ap withheld_is_no (rw (le-ltb block_max (length sent) h) (answer-past order BadLength _ _))

    pub allowed-refused : {r : Refusal} → send_size s source state b ≡ refused r → eqb (number r) 2 ≡ false → allowed s source state b sent ≡ refused r
    allowed-refused {r} e n = by_sending ∙ ap withheld_is_no (answer_through _ _ e) ∙ (unfold withheld_is_no in rw n refl)

    pub allowed-withheld : {rule : ℕ} → send_size s source state b ≡ refused (Withheld rule) → allowed s source state b sent ≡ done no
    allowed-withheld e = by_sending ∙ ap withheld_is_no (answer_through _ _ e) ∙ (unfold withheld_is_no number in refl)

    pub allowed-compared : {n : ℕ} → send_size s source state b ≡ done n → allowed s source state b sent ≡ done (cond alike_sent yes no)
    allowed-compared e = by_sending ∙ (unfold refusals withheld_is_no in rw e (ap withheld_is_no (answer-passed order [] _ tt)))

-- ---- Yes exactly where the block conforms

yes-told : (told : Answer ℕ) → withheld_is_no told ≡ done yes → told ≡ done yes
unfolding withheld_is_no
yes-told (done n) e = e
yes-told (refused r) e = go (eqb (number r) 2) e
  where
    go : (x : Bool) → cond x (done no) (refused r) ≡ done yes → refused r ≡ done yes
    go true z = let w : ◌≡◌ {A = ℕ} 0 1 = cc in absurd (omega arith)
    go false z = z

yes-alike : (x : Bool) → cond x yes no ≡ yes → x ≡ true
yes-alike true e = refl
yes-alike false e = absurd (omega arith)

module _ (s : Session) (source state : ℕ) (b : List ℕ) where
  -- What sending makes of a block that it decides to send, and that it is readable.
  pub made-good : {m : List Attribute} → sending_verdict s source state b ≡ done m → (sending_result s source state (attributes b) ≡ m) × Good m
  made-good {m} e = (result e, (sending_keeps s source state b m e).good)
    where
      result : sending_verdict s source state b ≡ done m → sending_result s source state (attributes b) ≡ m
      result e = unfold sending_verdict in (answer-done order _ _ m e).0

  -- The same of a block whose length the first call tells, which is not above 4,073.
  pub sized-made : {n : ℕ} → send_size s source state b ≡ done n
      → Good (sending_result s source state (attributes b)) × (length (encode (sending_result s source state (attributes b))) ≤ block_max)
  unfolding send_size
  sized-made {n} e = go (sending_verdict s source state b) refl e
    where
      short : (m : List Attribute) → measured (done m) ≡ done n → length (encode m) ≤ block_max
      short m q = unfold measured number in ltb-false block_max (length (encode m)) ((answer-done order _ _ n q).1.0 (order-whole NoRoom))

      go : (d : Answer (List Attribute)) → sending_verdict s source state b ≡ d → measured d ≡ done n
          → Good (sending_result s source state (attributes b)) × (length (encode (sending_result s source state (attributes b))) ≤ block_max)
      go (done m) p q = let g = made-good p in rw g.0 (g.1, short m q)
      go (refused r) p q = unfold measured in (let w : ◌≡◌ {A = ℕ} 0 1 = cc in absurd (omega arith))

-- Where no attribute is cut off, the same attributes are readable ones.
pub same-readable : {ours : List Attribute} (sent : List ℕ) → Good ours → whole (chop attribute_size sent) ≡ true → Reordered ours (attributes sent) → readable sent ≡ true
same-readable sent g w r =
    subst (λ (b : List ℕ). readable b ≡ true) (encode-attributes sent w) (good-readable (attributes sent) (good_reordered r g (attributes-framed sent)))

-- So the code need not read the block sent to its faults.
pub alike-whole : {ours : List Attribute} (sent : List ℕ) → Good ours
    → whole (chop attribute_size sent) && same_attributes ours (attributes sent) ≡ readable sent && same_attributes ours (attributes sent)
alike-whole {ours} sent g = go (same_attributes ours (attributes sent)) refl (whole (chop attribute_size sent)) refl (readable sent) refl
  where
    go : (x : Bool) → same_attributes ours (attributes sent) ≡ x → (y : Bool) → whole (chop attribute_size sent) ≡ y → (z : Bool) → readable sent ≡ z → y && x ≡ z && x
    go true e true f z q = let t : z ≡ true = sym q ∙ same-readable sent g f (same_reordered g.once e) in rw t refl
    go true e false f true q = absurd (true≢false (sym (readable-whole sent q) ∙ f))
    go true e false f false q = refl
    go false e y f z q = and-false y ∙ sym (and-false z)

pub yes_exactly : YesExactly
yes_exactly s source state b sent = (to, from)
  where
    ours : List Attribute
    ours = sending_result s source state (attributes b)

    to : allowed s source state b sent ≡ done yes → Conforms s source state b sent
    to e = unfold allowed in go (send_size s source state b) refl (answer-done order _ _ yes (yes-told _ e))
      where
        go : (d : Answer ℕ) → send_size s source state b ≡ d
            → (cond (alike_sent s source state b sent) yes no ≡ yes) × Passed order (BadLength when too_long sent ∷ refusals (send_size s source state b))
            → Conforms s source state b sent
        go (done n) p a =
            let x = yes-alike (alike_sent s source state b sent) a.0 in
            let r = and_left (readable sent) (same_attributes ours (attributes sent)) x in
            let q = and_right (readable sent) (same_attributes ours (attributes sent)) x in
            record {
              size = n;
              answered = p;
              short = ltb-false block_max (length sent) (a.1.0 (order-whole BadLength));
              ends = readable-whole sent r;
              same = same_reordered (sized-made s source state b p).0.once q;
            }
        go (refused r) p a = unfold refusals in absurd (true≢false ((rw p at a.1.1).0 (order-whole r)))

    from : Conforms s source state b sent → allowed s source state b sent ≡ done yes
    from c =
        let g = (sized-made s source state b c.answered).0 in
        allowed-compared s source state b sent c.short c.answered
        ∙ rw (same-readable sent g c.ends c.same, reordered_same g.once c.same) refl

pub own-allowed : OwnAllowed
own-allowed s source state n b before after p =
    let w = leaves-stored (sending_verdict s source state b) before n after p in
    let g = made-good s source state b w.is in
    (yes_exactly s source state b (take n after)).1
    (record {
      size = n;
      answered = ((agreement s source state b before after (send_size s source state b) (done n) refl p).stores n refl).0;
      short = omega (arith, ap length w.theirs, w.short);
      ends = rw (w.theirs, chop-encode w.made (all_map (λ a h. h.0) w.made g.1.each)) (unfold whole is_empty in refl);
      same = rw (w.theirs, read_back w.made g.1, g.0) (reordered_self w.made);
    })
