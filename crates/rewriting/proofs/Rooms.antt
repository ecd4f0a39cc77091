-- What a caller is told of attributes that are to be stored, and what is left in the buffer.
use mathlib.Core.Path.{◌≡◌, refl, ap, ◌∙◌}
use mathlib.Core.List.{List}
use Prim.Native.Nat.{ℕ, ◌≤◌, ◌<◌}
use native.Mathlib.Omega.{arith}
use lib.ListN.{length}
use borrow.Author.Tests.{lt-ltb, le-ltb}
use Rattle.rules.specs.Answers.{done, refused, answer, order, first, number, sized, stored}
use Rattle.rules.specs.Settings.{block_max}
use Rattle.rules.specs.Attributes.{Attribute, encode}
use Rattle.rules.specs.Changes.{no_room, fitted, Leaves}
use Rattle.rules.specs.declared.Refusal.TheVariants.{NoRoom}
use Rattle.octets.specs.Buffer.{Stored}
use Rattle.octets.proofs.Splices.{splice-zero}
use Rattle.rewriting.specs.Plan.{Stands}
use Rattle.rewriting.specs.declared.plan.Plan.{Plan}

-- A plan knows how long the attributes are that it stands for.
pub stands_size : {b : List ℕ} {m : List Attribute} {p : Plan} → Stands b m p → p.size ≡ length (encode m)
stands_size w = w.size ∙ ap length w.is

module _ (m : List Attribute) (before : List ℕ) where
  pub no_room_lem : length before < length (encode m) → Leaves (done m) before (refused NoRoom) before
  unfolding fitted no_room answer order first number sized stored
  no_room_lem h = let e = lt-ltb (length before) (length (encode m)) h in record { answered = rw e refl; buffer = rw e refl }

  module _ (h : length (encode m) ≤ length before) where
    pub too_long_lem : block_max < length (encode m) → Leaves (done m) before (refused NoRoom) before
    unfolding fitted no_room answer order first number sized stored
    too_long_lem k =
        let e = le-ltb (length before) (length (encode m)) h in
        let f = lt-ltb block_max (length (encode m)) k in
        record { answered = rw (e, f) refl; buffer = rw (e, f) refl }

    pub stored-whole : length (encode m) ≤ block_max → {n : ℕ} {after : List ℕ} → Stored before 0 (encode m) n after → Leaves (done m) before (done n) after
    unfolding fitted no_room answer order first number sized stored
    stored-whole k p =
        let e = le-ltb (length before) (length (encode m)) h in
        let f = le-ltb block_max (length (encode m)) k in
        record { answered = rw (e, f) (ap done (omega (arith, p.next))); buffer = rw (e, f) (p.is ∙ splice-zero before (encode m)) }
