-- The fourth field of a receipt's line, by the number told with its answer.
use Prim.Native.Nat.{ℕ, ◌+◌, ◌/◌}
use mathlib.Core.Path.{◌≡◌, refl}
use mathlib.Core.List.{List, ◌∷◌}
use mathlib.Core.Option.{Option, none, some}
use lib.ListN.{drop}
use Rattle.std.specs.Prelude.{Result, Err}
use Rattle.rules.specs.Answers.{Answer, number, answer_number}
use Rattle.rules.specs.Changes.{thrown_told}
use Rattle.rules.specs.Text.{space}
use Rattle.rules.specs.Desk.{shown_number, thrown_field}
use Rattle.rules.specs.declared.Refusal.{Refusal}
use Rattle.frames.specs.Replying.{replied, Replies, shown_field, Tells, dashed, numbered}

module _ (w : ℕ) (f : List ℕ) {a : Answer (List ℕ)} {made b : List ℕ} (e : b ≡ drop (2 + w / 8) f) where
  told-field : {reply : Result ℕ Refusal} {told : Option ℕ} → Replies a made reply → told ≡ thrown_told (answer_number (replied made reply)) b
      → space ∷ shown_number told ≡ thrown_field w f a
  unfolding thrown_field
  told-field R t = rw (t, R.is, e) refl

  pub tells_dash : {r : Refusal} → Replies a made (Err r) → none ≡ thrown_told (number r) b → Tells a (thrown_field w f a) made (dashed r)
  unfolding replied shown_field answer_number
  tells_dash R t = record { replies = R; field = told-field R t }

  pub tells_number : {reply : Result ℕ Refusal} {n : ℕ} → Replies a made reply → some n ≡ thrown_told (answer_number (replied made reply)) b
      → Tells a (thrown_field w f a) made (numbered reply n)
  unfolding shown_field
  tells_number R t = record { replies = R; field = told-field R t }
