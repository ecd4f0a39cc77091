-- The byte machine: what it still owes, and what each call promises. "What has been written plus what the rest of the input will
-- give equals the definition of the whole input."
use Rattle.std.specs.Prelude.{ℕ, suc, ◌+◌, ◌≤◌, ◌<◌, ◌≡◌, List, [], ◌∷◌, ◌++◌, length, take, Result, Ok, Err, None}
use Rattle.std.specs.Result.{IfOk}
use Rattle.rules.specs.Answers.{Answer, answer_number}
use Rattle.rules.specs.Text.{lines, said_from, space, decimal}
use Rattle.rules.specs.Desk.{Desk, output_line, shown_result, line_answer, line_field, line_next}
use Rattle.octets.specs.Buffer.{Stored}
use Rattle.input_lines.specs.Lines.{Holds}
use Rattle.input_lines.specs.Feeding.{Feeds}
use Rattle.desk_lines.specs.declared.state.Progress.{Progress}
use Rattle.desk_lines.specs.declared.state.State.{State}
use Rattle.frames.specs.Sizes.{result_max}
use Rattle.frames.specs.Replying.{replied, shown_field}
use Rattle.frames.specs.declared.reply.Outcome.{Outcome}
use Rattle.desk_lines.specs.Sizes.{frame_max, answer_max}
use Rattle.desk_memory.specs.Keeping.{desk_of, Keeps}

-- ---- From line to line

-- Where a desk stands between lines: the number of the next, and what it keeps.
pub record Turn : Type 0 where
  pub number : ℕ
  pub desk : Desk

-- What it says of a line, and where it stands after it.
unfoldable pub desk_says : Turn → List ℕ → List ℕ
desk_says t l = output_line t.number (line_answer t.desk l) (line_field t.desk l)

unfoldable pub desk_next : Turn → List ℕ → Turn
desk_next t l = record { number = suc t.number; desk = line_next t.desk l }

-- An answer in the line that goes out, after the line's number and before the fourth field.
abbrev pub shown_answer : Answer (List ℕ) → List ℕ
shown_answer a = decimal (answer_number a) ++ (space ∷ shown_result a)

-- The line that goes out for what is told of a line of this number.
abbrev pub told_line : ℕ → List ℕ → Outcome → List ℕ
told_line n made outcome = output_line n (replied made outcome.reply) (shown_field outcome.field)

-- ---- States

unfoldable pub begun : State
begun =
    record {
      number = 0;
      held = 0;
      wrote = 0;
      kept = record { used = 0; used6 = 0; session = None };
    }

unfoldable pub turn_of : State → List ℕ → Turn
turn_of s tables = record { number = suc s.number; desk = desk_of s.kept tables }

-- What a desk in this state will give for the rest of its input.
unfoldable pub future : State → List ℕ → List ℕ → List ℕ → List ℕ
future s tables line rest = said_from desk_says desk_next (turn_of s tables) (lines (take s.held line ++ rest))

-- The machine can go on: `line` holds the line that has begun, and the tables is good.
pub record Ready (s : State) (tables line : List ℕ) : Type 0 where
  pub holds : Holds line s.held
  pub keeps : Keeps s.kept tables

-- The memory lent for a frame and for a result has its size, and `out` has `room` bytes.
pub record Lent (raw made out : List ℕ) (room : ℕ) : Type 0 where
  pub frame : length raw ≡ frame_max
  pub result : length made ≡ result_max
  pub within : room ≤ length out

-- ---- Calls

-- What answering a line promises: the line that goes out, and what is kept.
pub record Answered (s : State) (tables line out : List ℕ) (s' : State) (tables' out' : List ℕ) : Type 0 where
  pub said : Stored out s.wrote (desk_says (turn_of s tables) line) s'.wrote out'
  pub next : turn_of s' tables' ≡ desk_next (turn_of s tables) line
  pub keeps : Keeps s'.kept tables'
  pub number : s'.number ≡ s.number + 1
  pub held : s'.held ≡ 0
  pub room : s'.wrote ≤ s.wrote + answer_max

-- What taking some bytes in promises, wherever the answers are put: what they say and what the rest of the input will give are what
-- all of it would.
pub record Consumed (s : State) (tables line piece : List ℕ) (s' : State) (tables' line' : List ℕ) : Type 0 where
  pub said : List ℕ
  pub feeds : Feeds desk_says desk_next (turn_of s tables) (take s.held line) piece said (turn_of s' tables') (take s'.held line')
  pub ready : Ready s' tables' line'
  pub count : s'.number ≤ s.number + length piece

-- What feeding some bytes promises: they are consumed, and what they say is added to the output.
pub record Fed (s : State) (tables line out piece : List ℕ) (s' : State) (tables' line' out' : List ℕ) : Type 0 where
  pub consumed : Consumed s tables line piece s' tables' line'
  pub stored : Stored out s.wrote consumed.said s'.wrote out'

-- What it promises of a piece: the bytes that it took were fed, at least one where there is room for an answer.
pub record Progressed (s : State) (tables line out piece : List ℕ) (r : Progress) (tables' line' out' : List ℕ) : Type 0 where
  pub fed : Fed s tables line out (take r.taken piece) r.state tables' line' out'
  pub within : r.taken ≤ length piece
  pub room : r.state.wrote ≤ length out
  pub some : 0 < length piece → s.wrote + answer_max ≤ length out → 0 < r.taken

-- The state once the caller has taken away what is written.
abbrev pub emptied : State → State
emptied s = record { number = s.number; held = s.held; wrote = 0; kept = s.kept }

-- The state that handing a piece over gives, whether all was written or not.
abbrev pub handed_state : Result State State → State
handed_state (Ok s) = s
handed_state (Err s) = s

-- What handing a piece over promises: the machine is ready, with nothing left to write; where all was written, the whole piece is consumed.
pub record HandedOver (s : State) (tables line piece : List ℕ) (handed : Result State State) (tables' line' : List ℕ) : Type 0 where
  pub whole : IfOk handed (λ s'. Consumed s tables line piece s' tables' line')
  pub ready : Ready (handed_state handed) tables' line'
  pub empty : (handed_state handed).wrote ≡ 0

-- ---- Runs

-- A run, of whose calls only the promises are known: pieces of any size are consumed in turn, and at the end of the input what is
-- left is stored in `out`.
pub data Run : State → List ℕ → List ℕ → List (List ℕ) → List ℕ → Type 0 where
  finished : (s : State) (tables line out : List ℕ) (end : ℕ) (out' : List ℕ) → s.wrote ≡ 0
      → Stored out s.wrote (future s tables line []) end out' → Run s tables line [] (take end out')
  consumed : (s : State) (tables line piece : List ℕ) (s' : State) (tables' line' : List ℕ) (pieces : List (List ℕ)) (last : List ℕ)
      → (c : Consumed s tables line piece s' tables' line') → Run s' tables' line' pieces last → Run s tables line (piece ∷ pieces) (c.said ++ last)
