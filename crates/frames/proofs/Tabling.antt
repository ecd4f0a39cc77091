-- A VRP frame, over any width, by how many VRPs are held.
use Prim.Native.Nat.{ℕ, ◌+◌, ◌-◌, ◌*◌, ◌≤◌, ◌<◌}
use mathlib.Core.Path.{◌≡◌, refl, sym, ap, ◌∙◌}
use mathlib.Core.Bool.{Bool, true, false, cond}
use mathlib.Core.List.{List, []}
use native.Mathlib.Nat.{mul_comm, le_of_mul-le-mul_left, lt_of_mul-lt-mul_left}
use native.Mathlib.Omega.{arith}
use borrow.Author.Tests.{lt-ltb, le-ltb, le-leb, lt-leb}
use lib.ListN.{length, take, drop}
use Rattle.std.specs.Prelude.{Ok, Err}
use Rattle.rules.specs.Answers.{done, refused, answer, order, first, number}
use Rattle.rules.specs.Settings.{vrps_max}
use Rattle.rules.specs.Origin.{Vrp, vrp, vrp_size, bad_vrp}
use Rattle.rules.specs.Desk.{vrp_in, vrp_frame}
use Rattle.rules.specs.declared.Refusal.TheVariants.{BadLength, BadVrp, Unreadable}
use Rattle.octets.proofs.Slices.{tail_is}
use Rattle.vrp_tables.proofs.Scans.{size_pos}
use Rattle.frames.specs.Replying.{replied, Replies}
use Rattle.frames.proofs.Framing.{replies-refused}

-- A table of VRPs that take so many bytes.
module _ (w : ℕ) (held : List Vrp) {used : ℕ} (records : used ≡ vrp_size w * length held) where
  full : vrps_max * vrp_size w ≤ used → vrps_max ≤ length held
  full u = le_of_mul-le-mul_left {k = vrp_size w} (omega (arith, records, mul_comm vrps_max (vrp_size w))) (size_pos w)

  not_full : used < vrps_max * vrp_size w → length held < vrps_max
  not_full u = lt_of_mul-lt-mul_left (vrp_size w) (omega (arith, records, mul_comm vrps_max (vrp_size w)))

  module _ (f made : List ℕ) where
    pub vrp-short : length f < 1 + vrp_size w → Replies (vrp_frame w held f) made (Err Unreadable)
    unfolding vrp_frame answer order first number
    vrp-short h = replies-refused made (rw (lt-ltb (length f) (1 + vrp_size w) h) refl)

    module _ (h : 1 + vrp_size w ≤ length f) where
      pub vrp-long : 1 + vrp_size w < length f → Replies (vrp_frame w held f) made (Err BadLength)
      unfolding vrp_frame answer order first number
      vrp-long l = replies-refused made (rw (le-ltb (length f) (1 + vrp_size w) h, lt-ltb (1 + vrp_size w) (length f) l) refl)

      module _ (q : length f ≤ 1 + vrp_size w) where
        pub vrp-full : vrps_max * vrp_size w ≤ used → Replies (vrp_frame w held f) made (Err BadLength)
        unfolding vrp_frame answer order first number
        vrp-full u =
            replies-refused made
            (rw (le-ltb (length f) (1 + vrp_size w) h, le-ltb (1 + vrp_size w) (length f) q, le-leb vrps_max (length held) (full u)) refl)

        module _ (u : used < vrps_max * vrp_size w) {x : Bool} (e : x ≡ bad_vrp w (vrp w (take (length f - 1) (drop 1 f)))) where
          vrp-is : vrp_frame w held f ≡ cond x (refused (BadVrp 0)) (done [])
          unfolding vrp_frame vrp_in answer order first number
          vrp-is =
              let b : bad_vrp w (vrp w (drop 1 f)) ≡ x = sym (e ∙ ap (λ (s : List ℕ). bad_vrp w (vrp w s)) (tail_is f 1)) in
              rw (le-ltb (length f) (1 + vrp_size w) h, le-ltb (1 + vrp_size w) (length f) q, lt-leb vrps_max (length held) (not_full u), b) refl

          pub vrp_bad : x ≡ true → Replies (vrp_frame w held f) made (Err (BadVrp 0))
          vrp_bad z = replies-refused made (rw (vrp-is, z) refl)

          pub vrp-taken : x ≡ false → Replies (vrp_frame w held f) made (Ok 0)
          unfolding replied
          vrp-taken z = record { is = sym (rw (vrp-is, z) refl); within = (omega arith, omega arith) }
