-- The answer to a frame by its kind, and what the desk keeps after it.
use Prim.Native.Nat.{ℕ, ◌-◌, ◌≤◌}
use mathlib.Core.Path.{◌≡◌, refl, sym, ap, ◌∙◌, subst}
use mathlib.Core.Bool.{Bool, true, false, false≢true, true≢false}
use mathlib.Core.List.{List, [], ◌∷◌, ◌++◌, append-nil}
use native.Mathlib.Omega.{arith}
use borrow.Author.Tests.{ltb-false, ne_eqb}
use lib.Dec.{eqb}
use lib.ListN.{length, take, drop, get_or, length-append, length-take, length-drop, drop_of_length-le}
use lib.Seq.{take_at, drop_at, take-take}
use Rattle.rules.specs.Bytes.{exists, one_of}
use Rattle.rules.specs.Answers.{Answer, done, refused, order, number}
use Rattle.rules.specs.Origin.{ipv4, ipv6, vrps}
use Rattle.rules.specs.Desk.{Desk, session_frame, receipt_frame, sending_frame, vrp_in, vrp_frame, in_session, frame_answer, frame_next, session_head}
use Rattle.rules.specs.declared.Refusal.TheVariants.{Unreadable}
use Rattle.rules.specs.declared.Session.{Session}
use Rattle.octets.specs.Buffer.{Stored}
use Rattle.std.specs.Prelude.{Some, None}
use Rattle.desk_memory.specs.Kinds.{width_of}
use Rattle.desk_memory.specs.declared.kinds.Ip.{Ip}
use Rattle.desk_memory.specs.declared.kinds.Ip.TheVariants.{V4, V6}
use Rattle.frames.specs.Replying.{was_done}
use Rattle.desk_memory.specs.declared.kept.Kept.{Kept}
use Rattle.desk_memory.specs.declared.kinds.Kind.TheVariants.{Session as A_session, Receipt, Sending, Vrp}
use Rattle.desk_memory.specs.Kinds.{first_byte, Begins}
use Rattle.desk_memory.specs.Sizes.{table_max, tables_max}
use Rattle.desk_memory.specs.Keeping.{memory4, memory6, memory_of, used_of, told_session, desk_of, TableKept, Keeps, kept_session, KeptNext}
use Rattle.desk_memory.proofs.Tabling.{done-passed, kept-none, grown-is, grown-kept}

-- ---- The tables as they are lent

pub keeps-none : {kept : Kept} {tables : List ℕ} → kept.used ≡ 0 → kept.used6 ≡ 0 → length tables ≡ tables_max → Keeps kept tables
keeps-none {kept} {tables} e f n =
    record {
      room = n;
      four = rw e (kept-none ipv4 (omega (arith, length-take (table_max ipv4) tables)));
      six = rw f (kept-none ipv6 (omega (arith, length-drop (table_max ipv4) tables)));
    }

module _ {kept : Kept} {tables : List ℕ} (k : Keeps kept tables) where
  pub lent-end : drop (length tables - table_max ipv4) (memory6 tables) ≡ []
  lent-end = drop_of_length-le (memory6 tables) {i = length tables - table_max ipv4} (omega (arith, length-drop (table_max ipv4) tables))

  -- The table of one family.
  pub kept-table : (ip : Ip) → TableKept (width_of ip) (used_of ip kept) (memory_of ip tables)
  kept-table V4 = k.four
  kept-table V6 = k.six

  pub lent_4 : take kept.used tables ≡ take kept.used (memory4 tables)
  lent_4 = sym (take-take kept.used (table_max ipv4) tables k.four.within)

-- ---- The answer to a frame by its kind

module _ (kept : Kept) (tables f : List ℕ) where
  abbrev kind : ℕ
  kind = get_or f 0 0

  abbrev answered : Answer (List ℕ)
  answered = frame_answer (desk_of kept tables) f

  pub frame-session : kind ≡ 1 → answered ≡ session_frame f
  unfolding frame_answer
  frame-session e = rw e refl

  pub frame-vrp : (ip : Ip) → kind ≡ first_byte (Vrp ip)
      → answered ≡ vrp_frame (width_of ip) (vrps (width_of ip) (take (used_of ip kept) (memory_of ip tables))) f
  unfolding frame_answer desk_of
  frame-vrp V4 e = rw e refl
  frame-vrp V6 e = rw e refl

  module _ {s : Session} (l : kept.session ≡ Some s) where
    pub frame-receipt : (ip : Ip) → kind ≡ first_byte (Receipt ip)
        → answered ≡ receipt_frame (width_of ip) s (vrps (width_of ip) (take (used_of ip kept) (memory_of ip tables))) f
    unfolding frame_answer desk_of in_session told_session
    frame-receipt V4 e = rw (e, l) refl
    frame-receipt V6 e = rw (e, l) refl

    pub frame-sending : kind ≡ 3 → answered ≡ sending_frame s f
    unfolding frame_answer desk_of in_session told_session
    frame-sending e = rw (e, l) refl

  -- With no session.
  module _ (l : kept.session ≡ None) where
    pub frame_no_receipt : (ip : Ip) → kind ≡ first_byte (Receipt ip) → answered ≡ refused Unreadable
    unfolding frame_answer desk_of in_session told_session
    frame_no_receipt V4 e = rw (e, l) refl
    frame_no_receipt V6 e = rw (e, l) refl

    pub frame_no_sending : kind ≡ 3 → answered ≡ refused Unreadable
    unfolding frame_answer desk_of in_session told_session
    frame_no_sending e = rw (e, l) refl

  -- Of no kind.
  pub frame_unknown : Begins kind None → answered ≡ refused Unreadable
  unfolding frame_answer
  frame_unknown n =
      rw (ne_eqb kind 1 (n A_session), ne_eqb kind 2 (n (Receipt V4)), ne_eqb kind 3 (n Sending), ne_eqb kind 4 (n (Vrp V4)), ne_eqb kind 18 (n (Receipt V6)), ne_eqb kind 20 (n (Vrp V6))) refl

-- ---- What is kept after a frame

abbrev next : Kept → List ℕ → List ℕ → Desk
next kept tables f = frame_next (desk_of kept tables) f (frame_answer (desk_of kept tables) f)

module _ (kept : Kept) (tables f : List ℕ) {x : Bool} (d : was_done (frame_answer (desk_of kept tables) f) ≡ x) where
  pub kept-long : get_or f 0 0 ≡ 1 → x ≡ true → session_head ≤ length f
  unfolding frame_answer session_frame order number one_of exists
  kept-long e z = ltb-false (length f) session_head ((done-passed _ _ (rw e at (d ∙ z))).0 refl)

  pub kept_session_lem : get_or f 0 0 ≡ 1 → {k : Kept} → k ≡ kept_session kept f x → desk_of k tables ≡ next kept tables f
  unfolding desk_of told_session kept_session frame_next was_done
  kept_session_lem e {k} z = ap (λ (m : Kept). desk_of m tables) z ∙ go (frame_answer (desk_of kept tables) f) d
    where
      go : (a : Answer (List ℕ)) → was_done a ≡ x → desk_of (kept_session kept f x) tables ≡ frame_next (desk_of kept tables) f a
      go (done s) w = rw (← w, e) refl
      go (refused r) w = rw (← w, e) refl

  -- A VRP that was not taken changes nothing, and no more does a frame of another kind, or of none.
  pub kept-refused : (ip : Ip) → get_or f 0 0 ≡ first_byte (Vrp ip) → x ≡ false → desk_of kept tables ≡ next kept tables f
  unfolding frame_next was_done
  kept-refused ip e z = go ip e (frame_answer (desk_of kept tables) f) (d ∙ z)
    where
      go : (ip : Ip) → get_or f 0 0 ≡ first_byte (Vrp ip) → (a : Answer (List ℕ)) → was_done a ≡ false
          → desk_of kept tables ≡ frame_next (desk_of kept tables) f a
      go ip e (done s) w = absurd (true≢false w)
      go V4 e (refused r) w = rw e refl
      go V6 e (refused r) w = rw e refl

  pub kept-other : eqb (get_or f 0 0) 1 ≡ false → eqb (get_or f 0 0) 4 ≡ false → eqb (get_or f 0 0) 20 ≡ false → desk_of kept tables ≡ next kept tables f
  unfolding frame_next
  kept-other n1 n4 n20 = go (frame_answer (desk_of kept tables) f)
    where
      go : (a : Answer (List ℕ)) → desk_of kept tables ≡ frame_next (desk_of kept tables) f a
      go (done s) = rw (n1, n4, n20) refl
      go (refused r) = rw n1 refl

  pub kept-receipt : (ip : Ip) → get_or f 0 0 ≡ first_byte (Receipt ip) → desk_of kept tables ≡ next kept tables f
  kept-receipt V4 e = kept-other (rw e refl) (rw e refl) (rw e refl)
  kept-receipt V6 e = kept-other (rw e refl) (rw e refl) (rw e refl)

  -- A VRP that was taken goes to the end of its own table, and the other table stays.
  module _ (k : Keeps kept tables) (z : x ≡ true) where
    pub taken-vrp : get_or f 0 0 ≡ 4 → was_done (vrp_frame ipv4 (vrps ipv4 (take kept.used (memory4 tables))) f) ≡ true
    taken-vrp e = sym (ap was_done (frame-vrp kept tables f V4 e)) ∙ d ∙ z

    pub taken_vrp6 : get_or f 0 0 ≡ 20 → was_done (vrp_frame ipv6 (vrps ipv6 (take kept.used6 (memory6 tables))) f) ≡ true
    taken_vrp6 e = sym (ap was_done (frame-vrp kept tables f V6 e)) ∙ d ∙ z

    -- The memory after a store in one of its two parts.
    module _ (four six : List ℕ) (n : length four ≡ table_max ipv4) where
      front : memory4 (four ++ six) ≡ four
      front = take_at four six (table_max ipv4) n

      back : memory6 (four ++ six) ≡ six
      back = drop_at four six (table_max ipv4) n

    pub kept-vrp : (e : get_or f 0 0 ≡ 4) {used : ℕ} {grown : List ℕ} → Stored (memory4 tables) kept.used (drop 1 f) used grown
        → KeptNext kept tables f (record { used = used; used6 = kept.used6; session = kept.session }) (grown ++ memory6 tables)
    unfolding desk_of
    kept-vrp e {used} {grown} s =
        let t = taken-vrp e in
        let g = grown-kept k.four f t s in
        record {
          is = rw (front grown (memory6 tables) g.room, back grown (memory6 tables) g.room, grown-is k.four f t s) (go (frame_answer (desk_of kept tables) f) (d ∙ z));
          keeps = record { room = length-append grown (memory6 tables) ∙ omega (arith, g.room, k.six.room); four = rw (front grown (memory6 tables) g.room) g; six = rw (back grown (memory6 tables) g.room) k.six };
        }
      where
        go : (a : Answer (List ℕ)) → was_done a ≡ true
            → record { session = (desk_of kept tables).session; table = (desk_of kept tables).table ++ (vrp_in ipv4 f ∷ []); table6 = (desk_of kept tables).table6 } ≡ frame_next (desk_of kept tables) f a
        go (done y) w = unfold frame_next in rw e refl
        go (refused r) w = absurd (false≢true (unfold was_done in w))

    pub kept_vrp6 : (e : get_or f 0 0 ≡ 20) {used6 : ℕ} {grown past : List ℕ} → Stored (memory6 tables) kept.used6 (drop 1 f) used6 grown → past ≡ []
        → KeptNext kept tables f (record { used = kept.used; used6 = used6; session = kept.session }) (memory4 tables ++ (grown ++ past))
    unfolding desk_of
    kept_vrp6 e {used6} {grown} {past} s none =
        let t = taken_vrp6 e in
        let n = k.four.room in
        let g = grown-kept k.six f t s in
        let w : grown ++ past ≡ grown = ap (λ (m : List ℕ). grown ++ m) none ∙ append-nil grown in
        subst (λ (m : List ℕ). KeptNext kept tables f (record { used = kept.used; used6 = used6; session = kept.session }) (memory4 tables ++ m)) (sym w)
        (record {
          is = rw (front (memory4 tables) grown n, back (memory4 tables) grown n, grown-is k.six f t s) (go (frame_answer (desk_of kept tables) f) (d ∙ z));
          keeps = record { room = length-append (memory4 tables) grown ∙ omega (arith, n, g.room); four = rw (front (memory4 tables) grown n) k.four; six = rw (back (memory4 tables) grown n) g };
        })
      where
        go : (a : Answer (List ℕ)) → was_done a ≡ true
            → record { session = (desk_of kept tables).session; table = (desk_of kept tables).table; table6 = (desk_of kept tables).table6 ++ (vrp_in ipv6 f ∷ []) } ≡ frame_next (desk_of kept tables) f a
        go (done y) w = unfold frame_next in rw e refl
        go (refused r) w = absurd (false≢true (unfold was_done in w))
