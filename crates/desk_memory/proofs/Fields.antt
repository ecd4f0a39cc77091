-- The fourth field of a frame's line by its kind, and what is told with it.
use Prim.Native.Nat.{ℕ}
use mathlib.Core.Path.{◌≡◌, refl}
use mathlib.Core.Bool.{false}
use mathlib.Core.List.{List, ◌∷◌}
use mathlib.Core.Option.{none}
use lib.Dec.{eqb}
use lib.ListN.{get_or}
use Rattle.std.specs.Prelude.{Result}
use Rattle.rules.specs.Bytes.{exists, one_of}
use Rattle.rules.specs.Answers.{Answer, refused, answer_number, number}
use Rattle.rules.specs.Changes.{thrown_told}
use Rattle.rules.specs.Text.{space}
use Rattle.rules.specs.Desk.{shown_number, thrown_field, frame_field}
use Rattle.rules.specs.declared.Refusal.{Refusal}
use Rattle.rules.specs.declared.Refusal.TheVariants.{Unreadable}
use Rattle.desk_memory.specs.Kinds.{width_of}
use Rattle.desk_memory.specs.declared.kinds.Ip.{Ip}
use Rattle.desk_memory.specs.declared.kinds.Ip.TheVariants.{V4, V6}
use Rattle.frames.specs.declared.reply.Outcome.{Outcome}
use Rattle.frames.specs.Replying.{Replies, shown_field, Tells, plain, dashed}
use Rattle.frames.proofs.Framing.{replies-refused}
use Rattle.desk_memory.specs.declared.kinds.Kind.TheVariants.{Receipt, Vrp}
use Rattle.desk_memory.specs.Kinds.{first_byte}

module _ (f : List ℕ) {a : Answer (List ℕ)} {made : List ℕ} where
  -- A receipt of either family.
  pub tells-receipt : {o : Outcome} (ip : Ip) → get_or f 0 0 ≡ first_byte (Receipt ip) → Tells a (thrown_field (width_of ip) f a) made o
      → Tells a (frame_field f a) made o
  unfolding frame_field
  tells-receipt V4 e t = rw e t
  tells-receipt V6 e t = rw e t

  -- One that is not answered.
  pub tells-dashed : (ip : Ip) → get_or f 0 0 ≡ first_byte (Receipt ip) → a ≡ refused Unreadable → Tells a (frame_field f a) made (dashed Unreadable)
  unfolding shown_field
  tells-dashed ip b e = tells-receipt ip b (record { replies = replies-refused made e; field = dash-shown (width_of ip) })
    where
      dash-shown : (w : ℕ) → space ∷ shown_number none ≡ thrown_field w f a
      dash-shown w = unfold thrown_field thrown_told answer_number number one_of exists in rw e refl

  -- A frame of another kind, or of none.
  pub tells_plain : eqb (get_or f 0 0) 2 ≡ false → eqb (get_or f 0 0) 18 ≡ false → {reply : Result ℕ Refusal} → Replies a made reply
      → Tells a (frame_field f a) made (plain reply)
  unfolding frame_field shown_field
  tells_plain n2 n18 R = record { replies = R; field = rw (n2, n18) refl }

  pub tells-vrp : (ip : Ip) → get_or f 0 0 ≡ first_byte (Vrp ip) → {reply : Result ℕ Refusal} → Replies a made reply
      → Tells a (frame_field f a) made (plain reply)
  tells-vrp V4 e R = tells_plain (rw e refl) (rw e refl) R
  tells-vrp V6 e R = tells_plain (rw e refl) (rw e refl) R
