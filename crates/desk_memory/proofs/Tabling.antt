-- One family's table that grows, over any width: what it holds after a VRP frame that was taken.
use Prim.Native.Nat.{ℕ, ◌+◌, ◌*◌, ◌%◌, ◌≤◌, ◌<◌}
use mathlib.Core.Path.{◌≡◌, refl, sym, ap, ◌∙◌}
use mathlib.Core.Bool.{true, false, false≢true}
use mathlib.Core.List.{List, [], ◌∷◌, ◌++◌, map, map-append}
use native.Mathlib.Nat.{mul_comm, mul-suc, mul-le-mul_left, add-mod_right, zero-mod}
use native.Mathlib.Omega.{arith}
use borrow.Author.Tests.{ltb-false, leb-false}
use lib.Dec.{ltb, leb}
use lib.ListN.{length, take, drop, length-append, length-drop}
use lib.Seq.{length-take-le, take_at}
use Rattle.rules.specs.Bytes.{exists, one_of}
use Rattle.rules.specs.Rows.{chop, by}
use Rattle.rules.specs.Answers.{Answer, Check, done, refused, answer, order, number}
use Rattle.rules.specs.Settings.{vrps_max}
use Rattle.rules.specs.Origin.{Vrp, vrp, vrp_size, vrps, bad_vrp}
use Rattle.rules.specs.Desk.{vrp_in, vrp_frame}
use Rattle.rules.proofs.Fixed.{whole-count, items_more}
use Rattle.rules.proofs.Answers.{Passed, answer-done}
use Rattle.rules.proofs.Lists.{neither, exists-append}
use Rattle.octets.specs.Buffer.{splice, Stored}
use Rattle.octets.proofs.Splices.{splice-length}
use Rattle.vrp_tables.proofs.Scans.{size_pos, vrps-none}
use Rattle.frames.specs.Replying.{was_done}
use Rattle.desk_memory.specs.Sizes.{table_max}
use Rattle.desk_memory.specs.Keeping.{TableKept}

-- Where an answer is 0, no check applied.
pub done-passed : (checks : List Check) (x : List ℕ) → was_done (answer order checks x) ≡ true → Passed order checks
done-passed checks x e = go (answer order checks x) refl e
  where
    go : (a : Answer (List ℕ)) → answer order checks x ≡ a → was_done a ≡ true → Passed order checks
    go (done y) q z = (answer-done order checks x y q).1
    go (refused r) q z = absurd (false≢true (unfold was_done in z))

-- What a VRP frame that was answered 0 is: none of its checks applied.
vrp-done : (w : ℕ) (held : List Vrp) (f : List ℕ) → was_done (vrp_frame w held f) ≡ true → (length f ≡ 1 + vrp_size w) × (length held < vrps_max) × (bad_vrp w (vrp_in w f) ≡ false)
unfolding vrp_frame order number one_of exists
vrp-done w held f e =
    let c = done-passed _ [] e in
    let l = neither (ltb (1 + vrp_size w) (length f)) (leb vrps_max (length held)) (c.1.0 refl) in
    (omega (arith, ltb-false (length f) (1 + vrp_size w) (c.0 refl), ltb-false (1 + vrp_size w) (length f) l.0), leb-false vrps_max (length held) l.1, c.1.1.0 refl)

-- With no record.
pub kept-none : (w : ℕ) {table : List ℕ} → length table ≡ table_max w → TableKept w 0 table
unfolding exists
kept-none w n = record { room = n; within = omega arith; whole = zero-mod (vrp_size w); good = rw (vrps-none w) refl }

module _ {w used : ℕ} {table : List ℕ} (k : TableKept w used table) where
  taken-length : length (take used table) ≡ used
  taken-length = length-take-le used table (omega (arith, k.room, k.within))

  taken-whole : length (take used table) % vrp_size w ≡ 0
  taken-whole = rw taken-length k.whole

  pub taken-records : used ≡ vrp_size w * length (vrps w (take used table))
  unfolding vrps
  taken-records = sym taken-length ∙ whole-count (vrp w) (vrp_size w) (size_pos w) (take used table) taken-whole

  -- A VRP frame that was answered 0: it has one record, which is not bad, and there is room for it.
  module _ (f : List ℕ) (d : was_done (vrp_frame w (vrps w (take used table)) f) ≡ true) where
    one-record : length (drop 1 f) ≡ vrp_size w
    one-record = omega (arith, length-drop 1 f, (vrp-done w _ f d).0)

    room-left : used + vrp_size w ≤ table_max w
    unfolding vrp_size
    room-left =
        let held = vrps w (take used table) in
        omega (arith, taken-records, mul-suc (vrp_size w) (length held), mul_comm (vrp_size w) vrps_max, mul-le-mul_left (vrp_size w) (vrp-done w held f d).1)

    pub record-fits : {t r : List ℕ} → t ≡ table → r ≡ drop 1 f → used + length r ≤ length t
    record-fits e q = omega (arith, one-record, room-left, k.room, ap length e, ap length q)

    module _ {next : ℕ} {grown : List ℕ} (s : Stored table used (drop 1 f) next grown) where
      front : take next grown ≡ take used table ++ drop 1 f
      unfolding splice
      front =
          let p = take used table ++ drop 1 f in
          let n : length p ≡ next = length-append (take used table) (drop 1 f) ∙ ap (λ (m : ℕ). m + length (drop 1 f)) taken-length ∙ sym s.next in
          rw s.is (take_at p (drop (used + length (drop 1 f)) table) next n)

      -- The record stands at the end, and the table stays good.
      pub grown-is : vrps w (take next grown) ≡ vrps w (take used table) ++ (vrp_in w f ∷ [])
      unfolding vrps vrp_in
      grown-is =
          ap (vrps w) front ∙ ap (map (vrp w)) (items_more (vrp_size w) (size_pos w) (take used table) (drop 1 f) taken-whole one-record)
          ∙ map-append (vrp w) (chop (by (vrp_size w)) (take used table)).items (drop 1 f ∷ [])

      pub grown-kept : TableKept w next grown
      unfolding exists
      grown-kept =
          record {
            room = ap length s.is ∙ splice-length table used (drop 1 f) (record-fits refl refl) ∙ k.room;
            within = omega (arith, s.next, one-record, room-left);
            whole = ap (λ (n : ℕ). n % vrp_size w) (s.next ∙ ap (λ (n : ℕ). used + n) one-record) ∙ add-mod_right used (vrp_size w) ∙ k.whole;
            good = rw (grown-is, exists-append (bad_vrp w) (vrps w (take used table)) (vrp_in w f ∷ []), k.good, (vrp-done w _ f d).2) refl;
          }
