-- The answers of frames: what each way out of a frame's function replies is what the definition answers.
use Prim.Native.Nat.{ℕ, suc, ◌+◌, ◌-◌, ◌/◌, ◌≤◌, ◌<◌}
use mathlib.Core.Path.{◌≡◌, refl, sym, ap, ◌∙◌, subst}
use mathlib.Core.Bool.{true, false, false≢true}
use mathlib.Core.List.{List, [], ◌∷◌, ◌++◌}
use native.Mathlib.Omega.{arith}
use borrow.Author.Tests.{lt-ltb, le-ltb}
use lib.ListN.{length, take, drop, set, get_or, length-append, length-take, length-drop, length-set}
use lib.Seq.{take-append_seam, take-append-le}
use Rattle.std.specs.Prelude.{Result, Ok, Err}
use Rattle.rules.specs.Bytes.{over, one_of, exists, big_endian, part}
use Rattle.rules.specs.Answers.{Answer, done, refused, answer, order, first, number, ◌when◌, refusals, result_or, sized, stored, told}
use Rattle.rules.specs.Settings.{block_max, session_ok, prefix_length_ok, local_as}
use Rattle.rules.specs.Roles.{counterpart, open_checks, open_session}
use Rattle.rules.specs.Attributes.{Attribute, attributes, encode, readable, value_of, segments, as_path_type}
use Rattle.rules.specs.Changes.{block_checks, no_room, fitted, Leaves}
use Rattle.rules.specs.Receipt.{receipt_rules, receipt_result, receipt_verdict, receive}
use Rattle.rules.specs.Sending.{sending_verdict, send_write}
use Rattle.rules.specs.Origin.{vrps, state_in, origin_in, origin_as}
use Rattle.rules.specs.Desk.{session_head, session_in, session_frame, receipt_frame, sending_frame}
use Rattle.rules.specs.declared.Refusal.{Refusal}
use Rattle.rules.specs.declared.Refusal.TheVariants.{BadSetting, NoRoom, Unreadable}
use Rattle.rules.specs.declared.Session.{Session}
use Rattle.rules.proofs.Answers.{Passed, earlier, here, past, answer-decided, answer-refused, order-whole}
use Rattle.rules.proofs.Buffers.{fitted-fits, sized-refused, leaves_alone}
use Rattle.attributes.specs.Layout.{layout, value_at}
use Rattle.attributes.proofs.Found.{value_of_lem}
use Rattle.frames.specs.Sizes.{result_max}
use Rattle.frames.specs.Replying.{replied, Replies}

pub replies-refused : {a : Answer (List ℕ)} (made : List ℕ) {r : Refusal} → a ≡ refused r → Replies a made (Err r)
unfolding replied
replies-refused made e = record { is = sym e; within = tt }

-- ---- Answers through another function's

-- A refusal that is not 12, which alone goes before 5.
abbrev Later : Refusal → Type 0
Later r = one_of (earlier order 5) (number r) ≡ false

-- No refusal of another function's goes before 5.
later-passed : {B : Type 0} (a : Answer B) → ((r : Refusal) → a ≡ refused r → Later r) → Passed (earlier order 5) (refusals a)
unfolding refusals
later-passed (done s) h = tt
later-passed (refused r) h = (λ u. absurd (false≢true (sym (h r refl) ∙ u)), tt)

module _ {A B : Type 0} where
  through_setting : (a : Answer B) → ((r : Refusal) → a ≡ refused r → Later r) → (x : A)
      → answer order (Unreadable when false ∷ BadSetting when true ∷ refusals a) x ≡ refused BadSetting
  unfolding order number one_of exists
  through_setting a h x = answer-decided order x refl (past (λ u. refl) (here refl refl (later-passed a h)))

  through_refused : {a : Answer B} {r : Refusal} → a ≡ refused r → (x : A) → answer order (Unreadable when false ∷ refusals a) x ≡ refused r
  unfolding refusals
  through_refused {r = r} e x = rw e (answer-decided order x (order-whole r) (past (λ u. refl) (here refl refl tt)))

  through_both : {a : Answer B} {r : Refusal} → a ≡ refused r → (x : A)
      → answer order (Unreadable when false ∷ BadSetting when false ∷ refusals a) x ≡ refused r
  unfolding refusals
  through_both {r = r} e x = rw e (answer-decided order x (order-whole r) (past (λ u. refl) (past (λ u. refl) (here refl refl tt))))

open_later : (local strict : ℕ) (s : List ℕ) (r : Refusal) → open_session local strict s ≡ refused r → Later r
unfolding open_session open_checks order number earlier one_of exists
open_later local strict s r e = answer-refused Later order (open_checks local strict s) (counterpart local) r (refl, (refl, (refl, (refl, tt)))) e

fitted-later : (a : Answer (List Attribute)) (room : ℕ) (r : Refusal) → ((q : Refusal) → a ≡ refused q → Later q) → fitted a room ≡ refused r → Later r
unfolding fitted order number earlier one_of exists
fitted-later (done l) room r h e = answer-refused Later order (NoRoom when no_room (encode l) room ∷ []) (encode l) r (refl, tt) e
fitted-later (refused q) room r h e = let w : q ≡ r = cc in subst Later w (h q refl)

receive-later : (s : Session) (b : List ℕ) (room : ℕ) (r : Refusal) → receive s b room ≡ refused r → Later r
unfolding receive receipt_verdict block_checks receipt_rules order number earlier one_of exists
receive-later s b room r e = fitted-later (receipt_verdict s b) room r decided e
  where
    decided : (q : Refusal) → receipt_verdict s b ≡ refused q → Later q
    decided q d =
        answer-refused Later order (block_checks (session_ok s) b ++ receipt_rules s (attributes b)) (receipt_result s (attributes b)) q
        (refl, (refl, (refl, (refl, (refl, tt))))) d

-- ---- Session

module _ (f made : List ℕ) where
  pub session-short : length f < session_head → Replies (session_frame f) made (Err Unreadable)
  unfolding session_frame answer order first number
  session-short h = replies-refused made (rw (lt-ltb (length f) session_head h) refl)

  module _ (h : session_head ≤ length f) where
    pub session_setting : session_ok (session_in f) ≡ false → Replies (session_frame f) made (Err BadSetting)
    unfolding session_frame
    session_setting e =
        replies-refused made
        (rw (le-ltb (length f) session_head h, e)
        (through_setting (open_session (get_or f 9 0) (get_or f 10 0) (drop session_head f)) (open_later (get_or f 9 0) (get_or f 10 0) (drop session_head f)) _))

    module _ (ok : session_ok (session_in f) ≡ true) where
      pub session-refused : {r : Refusal} → refused r ≡ open_session (get_or f 9 0) (get_or f 10 0) (drop session_head f) → Replies (session_frame f) made (Err r)
      unfolding session_frame
      session-refused e = replies-refused made (rw (le-ltb (length f) session_head h, ok) (through_both (sym e) _))

      session-is : {role : ℕ} → done role ≡ open_session (get_or f 9 0) (get_or f 10 0) (drop session_head f) → session_frame f ≡ done (role ∷ [])
      unfolding session_frame answer order first number refusals result_or
      session-is e = rw (le-ltb (length f) session_head h, ok, ← e) refl

      pub session-opened : {role : ℕ} → length made ≡ result_max → done role ≡ open_session (get_or f 9 0) (get_or f 10 0) (drop session_head f)
          → Replies (session_frame f) (set made 0 role) (Ok 1)
      unfolding replied
      session-opened {role} k e =
          record { is = rw (session-is e) (go made k); within = (omega (arith, length-set made 0 role, k), omega arith) }
        where
          go : (m : List ℕ) → length m ≡ result_max → done (take 1 (set m 0 role)) ≡ done (role ∷ [])
          go [] z = absurd (omega arith)
          go (x ∷ m) z = refl

-- ---- What a call leaves in a buffer of 4,073 bytes

-- It told n bytes: what they are, and that they stand at the start of the buffer.
record Stores (decided : Answer (List Attribute)) (n : ℕ) (after : List ℕ) : Type 0 where
  bytes : List ℕ
  is : fitted decided block_max ≡ done bytes
  front : take n after ≡ bytes
  fits : n ≤ block_max
  size : length after ≡ block_max

module _ {decided : Answer (List Attribute)} {before after : List ℕ} {told : Answer ℕ} (k : length before ≡ block_max) (p : Leaves decided before told after) where
  leaves-refused : {r : Refusal} → told ≡ refused r → fitted decided block_max ≡ refused r
  leaves-refused e = sized-refused (fitted decided block_max) (sym e ∙ p.answered ∙ ap (λ (m : ℕ). sized (fitted decided m)) k)

  leaves-done : {n : ℕ} → told ≡ done n → Stores decided n after
  unfolding sized stored over
  leaves-done {n} e =
      go (fitted decided block_max) refl (sym e ∙ p.answered ∙ ap (λ (m : ℕ). sized (fitted decided m)) k)
      (p.buffer ∙ ap (λ (m : ℕ). stored (fitted decided m) before) k)
    where
      go : (a : Answer (List ℕ)) → fitted decided block_max ≡ a → done n ≡ sized a → after ≡ stored a before → Stores decided n after
      go (done x) d z b =
          let l : n ≡ length x = cc in
          record {
            bytes = x;
            is = d;
            front = rw (b, l) (take-append_seam x (drop (length x) before));
            fits = omega (arith, l, fitted-fits decided block_max x d);
            size = (leaves_alone decided before told after p).size ∙ k;
          }
      go (refused q) d z b = let m : ◌≡◌ {A = ℕ} 0 1 = cc in absurd (omega arith)

-- The buffer that `&mut made[1..]` lends.
pub tail_long : (made : List ℕ) → length made ≡ result_max → length (take (length made - 1) (drop 1 made)) ≡ block_max
tail_long made k = simp (length-take, length-drop) (omega arith)

-- ---- Sending

module _ (s : Session) (f made : List ℕ) where
  pub sending_short : length f < 3 → Replies (sending_frame s f) made (Err Unreadable)
  unfolding sending_frame answer order first number
  sending_short h = replies-refused made (rw (lt-ltb (length f) 3 h) refl)

  module _ (h : 3 ≤ length f) where
    sending_is : (a : Answer (List ℕ)) → send_write s (get_or f 1 0) (get_or f 2 0) (drop 3 f) block_max ≡ a → sending_frame s f ≡ a
    unfolding sending_frame answer order first number refusals result_or
    sending_is (done x) e = rw (le-ltb (length f) 3 h, e) refl
    sending_is (refused r) e = rw (le-ltb (length f) 3 h) (through_refused e _)

    module _ {b before after : List ℕ} {told : Answer ℕ} (e : b ≡ drop 3 f) (k : length before ≡ block_max)
        (p : Leaves (sending_verdict s (get_or f 1 0) (get_or f 2 0) b) before told after) where
      pub sending_refused : {r : Refusal} → told ≡ refused r → Replies (sending_frame s f) made (Err r)
      unfolding send_write
      sending_refused {r} z =
          replies-refused made (sending_is (refused r) (rw (← e) (leaves-refused {decided = sending_verdict s (get_or f 1 0) (get_or f 2 0) b} k p z)))

      pub sending_done : {n : ℕ} → told ≡ done n → Replies (sending_frame s f) (after ++ made) (Ok n)
      unfolding send_write replied
      sending_done {n} z =
          let q = leaves-done {decided = sending_verdict s (get_or f 1 0) (get_or f 2 0) b} k p z in
          record {
            is = ap done (take-append-le n after made (omega (arith, q.fits, q.size)) ∙ q.front) ∙ sym (sending_is (done q.bytes) (rw (← e) q.is));
            within = (omega (arith, q.fits, q.size, length-append after made), omega (arith, q.fits));
          }

-- Whatever the call of sending told.
module _ (s : Session) (f made : List ℕ) (h : 3 ≤ length f) {b before after : List ℕ} (e : b ≡ drop 3 f) (k : length before ≡ block_max) where
  pub sending_told : (r : Result ℕ Refusal) → Leaves (sending_verdict s (get_or f 1 0) (get_or f 2 0) b) before (told r) after → Replies (sending_frame s f) (after ++ made) r
  unfolding told
  sending_told (Ok n) p = sending_done s f made h e k p refl
  sending_told (Err x) p = sending_refused s f (after ++ made) h e k p refl

-- ---- Receipt

module _ (w : ℕ) (s : Session) (table f : List ℕ) where
  pub receipt-short : (made : List ℕ) → length f < 2 + w / 8 → Replies (receipt_frame w s (vrps w table) f) made (Err Unreadable)
  unfolding receipt_frame answer order first number
  receipt-short made h = replies-refused made (rw (lt-ltb (length f) (2 + w / 8) h) refl)

  module _ (h : 2 + w / 8 ≤ length f) where
    pub receipt_setting : (made : List ℕ) → prefix_length_ok w (get_or f 1 0) ≡ false → Replies (receipt_frame w s (vrps w table) f) made (Err BadSetting)
    unfolding receipt_frame
    receipt_setting made q =
        replies-refused made
        (rw (le-ltb (length f) (2 + w / 8) h, q) (through_setting (receive s (drop (2 + w / 8) f) block_max) (receive-later s (drop (2 + w / 8) f) block_max) _))

    module _ (q : prefix_length_ok w (get_or f 1 0) ≡ true) {b before after : List ℕ} (e : b ≡ drop (2 + w / 8) f) (k : length before ≡ block_max)
        {told : Answer ℕ} (p : Leaves (receipt_verdict s b) before told after) where
      pub receipt-refused : (made : List ℕ) {r : Refusal} → told ≡ refused r → Replies (receipt_frame w s (vrps w table) f) made (Err r)
      unfolding receipt_frame receive
      receipt-refused made {r} z =
          replies-refused made
          (rw (le-ltb (length f) (2 + w / 8) h, q, ← e) (through_both (leaves-refused {decided = receipt_verdict s b} k p z) _))

      module _ {n : ℕ} (z : told ≡ done n) where
        stores : Stores (receipt_verdict s b) n after
        stores = leaves-done {decided = receipt_verdict s b} k p z

        pub receipt-fits : n ≤ block_max
        receipt-fits = stores.fits

        -- The state is found by the AS_PATH that receipt has told of.
        module _ (clean : readable b ≡ true) {place : ℕ} (at : place ≡ (layout (attributes b)).as_path) {path : List ℕ} (v : path ≡ value_at place b)
            {prefix : ℕ} (pre : prefix ≡ big_endian (part 2 (w / 8) f)) {state : ℕ}
            (x : state ≡ state_in w (vrps w table) prefix (get_or f 1 0) (origin_in (local_as s) (segments path))) where
          receipt-is : receipt_frame w s (vrps w table) f ≡ done (state ∷ stores.bytes)
          unfolding receipt_frame receive answer order first number refusals result_or origin_as layout
          receipt-is =
              let i : fitted (receipt_verdict s (drop (2 + w / 8) f)) block_max ≡ done stores.bytes = rw (← e) stores.is in
              let o : path ≡ value_of as_path_type (attributes (drop (2 + w / 8) f)) = v ∙ rw (at, e) (value_of_lem as_path_type (drop (2 + w / 8) f) (rw (← e) clean)) in
              rw (le-ltb (length f) (2 + w / 8) h, q, i, x, pre, o) refl

          pub receipt-done : (made rest : List ℕ) → length made ≡ result_max
              → Replies (receipt_frame w s (vrps w table) f) (set (take 1 made ++ (after ++ rest)) 0 state) (Ok (1 + n))
          unfolding replied
          receipt-done [] rest l = absurd (omega arith)
          receipt-done (y ∷ m) rest l =
              let i : take n (after ++ rest) ≡ stores.bytes = take-append-le n after rest (omega (arith, stores.fits, stores.size)) ∙ stores.front in
              let j : 1 + n ≡ suc n = omega arith in
              record {
                is = rw j (ap (λ (z : List ℕ). done (state ∷ z)) i) ∙ sym receipt-is;
                within = (omega (arith, stores.fits, stores.size, length-append after rest), omega (arith, stores.fits));
              }
