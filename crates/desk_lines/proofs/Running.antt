-- The whole input, however it is cut into pieces: what a run of the machine says is the definition's output.
use Prim.Native.Nat.{ℕ, suc}
use native.Mathlib.Omega.{arith}
use mathlib.Core.Path.{◌≡◌, refl, sym, ap, ◌∙◌, subst}
use mathlib.Core.List.{List, [], ◌∷◌, ◌++◌, flatten}
use lib.ListN.{take}
use Rattle.rules.specs.Rows.{chop, chop_up_to}
use Rattle.rules.specs.Origin.{vrps}
use Rattle.rules.specs.Text.{lines, said_from}
use Rattle.rules.specs.Desk.{Desk, new_desk, output_line, line_answer, line_field, line_next, desk_from, desk}
use Rattle.octets.specs.Buffer.{Stored}
use Rattle.octets.proofs.Writing.{stored-front}
use Rattle.input_lines.specs.Feeding.{Runs, finished as ended, fed}
use Rattle.input_lines.proofs.Feeding.{run_says}
use Rattle.desk_lines.specs.declared.state.State.{State}
use Rattle.desk_memory.specs.Keeping.{desk_of, told_session}
use Rattle.desk_lines.specs.Machine.{desk_says, desk_next, turn_of, begun, future, Run, finished, consumed}

-- The definition's fold over lines is the step's.
pub desk-said : (n : ℕ) (d : Desk) (ls : List (List ℕ)) → desk_from n d ls ≡ said_from desk_says desk_next (record { number = n; desk = d }) ls
unfolding desk_from said_from desk_says desk_next
desk-said n d [] = refl
desk-said n d (l ∷ ls) = ap (λ (r : List ℕ). output_line n (line_answer d l) (line_field d l) ++ r) (desk-said (suc n) (line_next d l) ls)

-- What is stored from the start of a buffer is what its front holds.
stored-said : {out said out' : List ℕ} {w end : ℕ} → w ≡ 0 → Stored out w said end out' → take end out' ≡ said
stored-said e S = stored-front (omega (arith, e)) S ∙ rw e refl

-- A run of the desk is one of its step: what is written is no part of what is to come.
run-feeds : (s : State) (tables line : List ℕ) (pieces : List (List ℕ)) (output : List ℕ) → Run s tables line pieces output
    → Runs desk_says desk_next (turn_of s tables) (take s.held line) pieces output
unfolding future
run-feeds _ _ _ _ _ (finished s tables line out end out' e S) =
    subst (Runs desk_says desk_next (turn_of s tables) (take s.held line) []) (sym (stored-said e S)) (ended (turn_of s tables) (take s.held line))
run-feeds _ _ _ _ _ (consumed s tables line piece s' tables' line' pieces last c r) =
    fed (turn_of s tables) (take s.held line) piece c.said (turn_of s' tables') (take s'.held line') pieces last c.feeds
    (run-feeds s' tables' line' pieces last r)

-- However the input is cut into pieces, what a run says is the definition's output.
pub run-desk : (tables line : List ℕ) (pieces : List (List ℕ)) (output : List ℕ) → Run begun tables line pieces output → output ≡ desk (flatten pieces)
unfolding begun turn_of desk_of told_session vrps chop chop_up_to desk new_desk
run-desk tables line pieces output r =
    run_says (turn_of begun tables) [] pieces output (run-feeds begun tables line pieces output r) ∙ sym (desk-said 1 new_desk (lines (flatten pieces)))
