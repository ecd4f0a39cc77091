-- Replies as the definition's answers, and the fourth field of the line that goes out.
use Rattle.std.specs.Prelude.{ℕ, ◌≤◌, ◌≡◌, Bool, true, false, List, [], ◌∷◌, length, take, Result, Ok, Err}
use Rattle.std.proofs.Math.Option.{none, some}
use Rattle.rules.specs.Answers.{Answer, done, refused}
use Rattle.rules.specs.Text.{space}
use Rattle.rules.specs.Origin.{Vrp}
use Rattle.rules.specs.Desk.{receipt_frame, shown_number, thrown_field}
use Rattle.rules.specs.declared.Refusal.{Refusal}
use Rattle.rules.specs.declared.Session.{Session}
use Rattle.frames.specs.declared.reply.Field.{Field}
use Rattle.frames.specs.declared.reply.Field.TheVariants.{Number, Dash, Absent}
use Rattle.frames.specs.declared.reply.Outcome.{Outcome}
use Rattle.frames.specs.Sizes.{result_max}

-- A reply as an answer: on 0 the result stands at the start of `made`, within it.
unfoldable pub replied : List ℕ → Result ℕ Refusal → Answer (List ℕ)
replied made (Ok n) = done (take n made)
replied made (Err r) = refused r

abbrev pub Within : List ℕ → Result ℕ Refusal → Type 0
Within made (Ok n) = (n ≤ length made) × (n ≤ result_max)
Within made (Err r) = Unit {0}

-- What answering a frame promises.
pub record Replies (answer : Answer (List ℕ)) (made : List ℕ) (reply : Result ℕ Refusal) : Type 0 where
  pub is : replied made reply ≡ answer
  pub within : Within made reply

-- The fourth field as it is shown.
unfoldable pub shown_field : Field → List ℕ
shown_field (Number n) = space ∷ shown_number (some n)
shown_field Dash = space ∷ shown_number none
shown_field Absent = []

-- What answering a frame promises where the line has some fourth field, or none.
pub record Tells (answer : Answer (List ℕ)) (shown made : List ℕ) (outcome : Outcome) : Type 0 where
  pub replies : Replies answer made outcome.reply
  pub field : shown_field outcome.field ≡ shown

-- What answering a receipt frame promises: its answer, and the number of tags thrown out.
abbrev pub TellsReceipt : ℕ → Session → List Vrp → List ℕ → List ℕ → Outcome → Type 0
TellsReceipt w s table f made outcome = Tells (receipt_frame w s table f) (thrown_field w f (receipt_frame w s table f)) made outcome

-- A reply without a field, a receipt refused without a number, and one answered with a number.
abbrev pub plain : Result ℕ Refusal → Outcome
plain reply = record { reply = reply; field = Absent }

abbrev pub dashed : Refusal → Outcome
dashed r = record { reply = Err r; field = Dash }

abbrev pub numbered : Result ℕ Refusal → ℕ → Outcome
numbered reply n = record { reply = reply; field = Number n }

unfoldable pub was_done : Answer (List ℕ) → Bool
was_done (done s) = true
was_done (refused r) = false
