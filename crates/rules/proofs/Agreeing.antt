-- 02, Q-6: the two calls of sending agree, by their definitions and by their promises.
use mathlib.Core.Path.{◌≡◌, refl, sym, ap, ◌∙◌}
use mathlib.Core.Bool.{Bool, true, false, cond, ◌||◌}
use mathlib.Core.List.{List}
use Prim.Native.Nat.{ℕ, ◌≤◌, ◌<◌}
use native.Mathlib.Omega.{arith}
use lib.Dec.{ltb}
use lib.ListN.{length}
use lib.Seq.{length-take-le}
use borrow.Author.Tests.{ltb-false, le-ltb, lt-ltb}
use Rattle.rules.specs.Answers.{Answer, done, refused, answer, order, first, number, sized}
use Rattle.rules.specs.Attributes.{Attribute, encode}
use Rattle.rules.specs.Settings.{block_max}
use Rattle.rules.specs.Changes.{too_long, no_room, fitted}
use Rattle.rules.specs.Sending.{sending_verdict, measured, send_size, send_write, with_room, Agreement}
use Rattle.rules.specs.declared.Session.{Session}
use Rattle.rules.specs.declared.Refusal.{Refusal}
use Rattle.rules.specs.declared.Refusal.TheVariants.{NoRoom}
use Rattle.rules.proofs.Buffers.{leaves_alone}

-- What the first tells of attributes, by their length: it, or 7.
abbrev length_unless : List Attribute → Bool → Answer ℕ
length_unless l full = cond full (refused NoRoom) (done (length (encode l)))

module _ (l : List Attribute) where
  pub measured-done : length (encode l) ≤ block_max → measured (done l) ≡ done (length (encode l))
  unfolding measured answer order first number
  measured-done h = ap (length_unless l) (le-ltb block_max (length (encode l)) h)

  pub measured-long : block_max < length (encode l) → measured (done l) ≡ refused NoRoom
  unfolding measured answer order first number
  measured-long h = ap (length_unless l) (lt-ltb block_max (length (encode l)) h)

pub measured-refused : {decided : Answer (List Attribute)} {r : Refusal} → decided ≡ refused r → refused r ≡ measured decided
unfolding measured
measured-refused e = rw e refl

-- Whatever is decided of a block, and whatever room there is.
fitted-measured : (decided : Answer (List Attribute)) (room : ℕ) → sized (fitted decided room) ≡ with_room room (measured decided)
unfolding sized fitted measured with_room answer order first number no_room
fitted-measured (done l) room = go (ltb room (length (encode l))) (too_long (encode l)) refl
  where
    go : (x y : Bool) → ltb room (length (encode l)) ≡ x
        → sized (cond (x || y) (refused NoRoom) (done (encode l))) ≡ with_room room (length_unless l y)
    go true true e = refl
    go true false e = sym (ap (length_unless l) e)
    go false true e = refl
    go false false e = sym (ap (length_unless l) e)
fitted-measured (refused r) room = refl

-- Of the definitions: the second tells what the first told, save where the buffer is short.
pub write_size : (s : Session) (source state : ℕ) (b : List ℕ) (room : ℕ)
    → sized (send_write s source state b room) ≡ with_room room (send_size s source state b)
unfolding send_write send_size
write_size s source state b room = fitted-measured (sending_verdict s source state b) room

-- A 0 of the second is a 0 of the first, with the same length, for which there is room.
done-with_room : (room n : ℕ) (told : Answer ℕ) → done n ≡ with_room room told → (told ≡ done n) × (n ≤ room)
unfolding with_room answer order first number
done-with_room room n (done k) e = go (ltb room k) refl e
  where
    go : (x : Bool) → ltb room k ≡ x → done n ≡ cond x (refused NoRoom) (done k) → (◌≡◌ {A = Answer ℕ} (done k) (done n)) × (n ≤ room)
    go true q z = let y : ◌≡◌ {A = ℕ} 0 1 = cc in absurd (omega arith)
    go false q z = let w : n ≡ k = cc in (rw w refl, omega (arith, w, ltb-false room k q))
done-with_room room n (refused r) e = let y : ◌≡◌ {A = ℕ} 0 1 = cc in absurd (omega arith)

-- Of the promises.
pub agreement : Agreement
unfolding send_size
agreement s source state b before after first second p q =
    record {
      told = told;
      stores = λ n e.
          let d = done-with_room (length before) n first (sym e ∙ told) in
          let left = leaves_alone (sending_verdict s source state b) before second after q in
          (d.0, length-take-le n after (omega (arith, d.1, left.size)), left.past n e);
    }
  where
    told : second ≡ with_room (length before) first
    told = q.answered ∙ fitted-measured (sending_verdict s source state b) (length before) ∙ ap (with_room (length before)) (sym p)
