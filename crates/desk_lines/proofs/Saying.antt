-- One line: the line that goes out, and what is kept after it.
use Prim.Native.Nat.{ℕ, ◌+◌, ◌≤◌}
use mathlib.Core.Path.{◌≡◌, refl, sym, ap, ◌∙◌}
use mathlib.Core.Bool.{Bool, true, false}
use mathlib.Core.List.{List, [], ◌∷◌, ◌++◌, append_assoc}
use native.Mathlib.Numerals.{add-one}
use native.Mathlib.Omega.{arith}
use lib.ListN.{length}
use Rattle.rules.specs.Answers.{Answer, done, refused, answer_number}
use Rattle.rules.specs.Text.{from_hex, readable_line, to_hex, dash, space, line_feed, decimal}
use Rattle.rules.specs.Desk.{shown_result, output_line, frame_answer, frame_next, line_answer, line_field, line_next}
use Rattle.std.specs.Prelude.{Result, Ok, Err}
use Rattle.std.specs.Result.{is_ok}
use Rattle.frames.specs.declared.reply.Outcome.{Outcome}
use Rattle.rules.specs.declared.Refusal.{Refusal}
use Rattle.rules.specs.declared.Refusal.TheVariants.{Unreadable}
use Rattle.octets.specs.Buffer.{Stored}
use Rattle.desk_memory.specs.declared.kept.Kept.{Kept}
use Rattle.desk_lines.specs.declared.state.State.{State}
use Rattle.desk_lines.specs.Sizes.{answer_max}
use Rattle.frames.specs.Replying.{replied, Replies, was_done}
use Rattle.desk_memory.specs.Keeping.{desk_of, TellsFrame, Keeps}
use Rattle.desk_lines.specs.Machine.{desk_says, desk_next, turn_of, shown_answer, told_line, Answered}

-- ---- A line out

pub shown-none : (l : List ℕ) → length l ≡ 0 → shown_result (done l) ≡ dash ∷ []
unfolding shown_result
shown-none [] h = refl
shown-none (b ∷ l) h = absurd (omega arith)

pub shown-some : (l : List ℕ) → (length l ≡ 0 → ⊥) → shown_result (done l) ≡ to_hex l
unfolding shown_result
shown-some [] h = absurd (h refl)
shown-some (b ∷ l) h = refl

-- The parts of the line that goes out, as they are stored.
pub line_parts : (n : ℕ) (a : Answer (List ℕ)) (field : List ℕ)
    → decimal n ++ (space ∷ []) ++ shown_answer a ++ field ++ (line_feed ∷ []) ≡ output_line n a field
unfolding output_line
line_parts n a field =
    ap (λ (l : List ℕ). l ++ field ++ (line_feed ∷ []))
    (append_assoc (decimal n) (space ∷ []) (shown_answer a)
    ∙ sym (append_assoc (decimal n) (space ∷ decimal (answer_number a)) (space ∷ shown_result a)))

-- ---- A line answered

module _ (s : State) (tables line : List ℕ) {out out' : List ℕ} {wrote : ℕ} where
  pub answered-unreadable : false ≡ readable_line line → Keeps s.kept tables
      → Stored out s.wrote (output_line (s.number + 1) (refused Unreadable) []) wrote out' → wrote ≤ s.wrote + answer_max
      → Answered s tables line out (record { number = s.number + 1; held = 0; wrote = wrote; kept = s.kept }) tables out'
  unfolding desk_says desk_next turn_of line_answer line_field line_next
  answered-unreadable e k S h =
      record {
        said = rw (← add-one s.number, ← e) S;
        next = rw (← e, add-one s.number) refl;
        keeps = k;
        number = refl;
        held = refl;
        room = h;
      }

  module _ (e : true ≡ readable_line line) {frame made : List ℕ} (f : frame ≡ from_hex line) {outcome : Outcome}
      (T : TellsFrame (desk_of s.kept tables) frame made outcome) where
    pub answered-frame : {kept : Kept} {tables' : List ℕ}
        → desk_of kept tables' ≡ frame_next (desk_of s.kept tables) frame (frame_answer (desk_of s.kept tables) frame) → Keeps kept tables'
        → Stored out s.wrote (told_line (s.number + 1) made outcome) wrote out' → wrote ≤ s.wrote + answer_max
        → Answered s tables line out (record { number = s.number + 1; held = 0; wrote = wrote; kept = kept }) tables' out'
    unfolding desk_says desk_next turn_of line_answer line_field line_next
    answered-frame n k S h =
        record {
          said = rw (← add-one s.number, ← e, ← f, ← T.field, ← T.replies.is) S;
          next = rw (n, ← e, ← f, add-one s.number) refl;
          keeps = k;
          number = refl;
          held = refl;
          room = h;
        }

-- Whether a reply is 0 is whether the answer is.
pub reply_agrees : {a : Answer (List ℕ)} {made : List ℕ} {reply : Result ℕ Refusal} {taken : Bool} → Replies a made reply → taken ≡ is_ok reply → was_done a ≡ taken
reply_agrees {a} {made} {reply} R e = ap was_done (sym R.is) ∙ same reply ∙ sym e
  where
    same : (reply : Result ℕ Refusal) → was_done (replied made reply) ≡ is_ok reply
    same (Ok n) = unfold was_done replied in refl
    same (Err r) = unfold was_done replied in refl
