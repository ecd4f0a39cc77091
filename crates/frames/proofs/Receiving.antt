-- A receipt frame once receipt has answered: what each of its answers makes of the line, where a prefix has so many octets.
use Prim.Native.Nat.{ℕ, ◌+◌, ◌-◌, ◌/◌, ◌≤◌}
use mathlib.Core.Path.{◌≡◌, refl, sym, ap, ◌∙◌}
use mathlib.Core.Bool.{Bool, true}
use mathlib.Core.List.{List, ◌++◌}
use lib.ListN.{length, take, drop, set, get_or}
use Rattle.std.specs.Prelude.{Result, Ok, Err}
use Rattle.rules.specs.Bytes.{big_endian, part}
use Rattle.rules.specs.Answers.{answer_number, told_received, thrown_received}
use Rattle.rules.specs.Settings.{block_max, local_as, prefix_length_ok}
use Rattle.rules.specs.Attributes.{segments}
use Rattle.rules.specs.Origin.{vrps, state_in, origin_in}
use Rattle.rules.specs.declared.Declined.{Declined}
use Rattle.rules.specs.declared.Declined.TheVariants.{Ineligible as NotEligible, Refused as NotReceived}
use Rattle.rules.specs.declared.Refusal.{Refusal}
use Rattle.rules.specs.declared.Refusal.TheVariants.{Ineligible}
use Rattle.rules.specs.declared.Session.{Session}
use Rattle.octets.proofs.Slices.{tail_is}
use Rattle.attributes.specs.Layout.{value_at}
use Rattle.policy.specs.Placed.{taken, GotPlaced}
use Rattle.policy.specs.declared.placed.Placed.{Placed}
use Rattle.frames.specs.Sizes.{result_max}
use Rattle.frames.specs.Replying.{replied, TellsReceipt, dashed, numbered}
use Rattle.frames.proofs.Framing.{tail_long, receipt-refused, receipt-fits, receipt-done}
use Rattle.frames.proofs.Fields.{tells_dash, tells_number}

module _ (w : ℕ) (s : Session) (table f : List ℕ) {octets : ℕ} (o : octets ≡ w / 8) (h : 2 + octets ≤ length f) {fits : Bool}
    (q : fits ≡ prefix_length_ok w (get_or f 1 0)) (z : fits ≡ true) (made after : List ℕ) (k : length made ≡ result_max) where
  long : 2 + w / 8 ≤ length f
  long = rw o at h

  -- The block that is lent.
  block-is : take (length f - (2 + octets)) (drop (2 + octets) f) ≡ drop (2 + w / 8) f
  block-is = tail_is f (2 + octets) ∙ ap (λ (n : ℕ). drop (2 + n) f) o

  passed : prefix_length_ok w (get_or f 1 0) ≡ true
  passed = sym q ∙ z

  room : length (take (length made - 1) (drop 1 made)) ≡ block_max
  room = tail_long made k

  -- What receipt promises of the block, into the buffer that `&mut made[1..]` lends.
  abbrev Gets : Result Placed Declined → Type 0
  Gets r = GotPlaced s (take (length f - (2 + octets)) (drop (2 + octets) f)) (take (length made - 1) (drop 1 made)) r after

  pub receipt-declined : {r : Refusal} → Gets (Err (NotReceived r)) → (shown : List ℕ) → TellsReceipt w s (vrps w table) f shown (dashed r)
  unfolding taken told_received thrown_received answer_number
  receipt-declined g shown = tells_dash w f block-is (receipt-refused w s table f long passed block-is room g.got.got shown refl) g.got.number

  pub receipt-ineligible : {rule thrown : ℕ} → Gets (Err (NotEligible rule thrown)) → (shown : List ℕ) → TellsReceipt w s (vrps w table) f shown (numbered (Err (Ineligible rule)) thrown)
  unfolding taken told_received thrown_received answer_number replied
  receipt-ineligible g shown = tells_number w f block-is (receipt-refused w s table f long passed block-is room g.got.got shown refl) g.got.number

  module _ (placed : Placed) (g : Gets (Ok placed)) where
    pub receipt-room : placed.length ≤ block_max
    unfolding taken told_received
    receipt-room = receipt-fits w s table f long passed block-is room g.got.got refl

    pub receipt-taken : {path : List ℕ} → path ≡ value_at placed.as_path (take (length f - (2 + octets)) (drop (2 + octets) f))
        → {prefix : ℕ} → prefix ≡ big_endian (part 2 (w / 8) f) → {state : ℕ}
        → state ≡ state_in w (vrps w table) prefix (get_or f 1 0) (origin_in (local_as s) (segments path))
        → (rest : List ℕ) → TellsReceipt w s (vrps w table) f (set (take 1 made ++ (after ++ rest)) 0 state) (numbered (Ok (1 + placed.length)) placed.thrown_out)
    unfolding taken told_received thrown_received answer_number replied
    receipt-taken v pre x rest =
        tells_number w f block-is (receipt-done w s table f long passed block-is room g.got.got refl g.path.0 g.path.1 v pre x made rest k) g.got.number
