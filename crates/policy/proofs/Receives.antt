-- What is decided of a block received, by what receipt finds in turn: the laws of Deciding.antt for receipt. And what it hands on by it.
use mathlib.Core.Path.{◌≡◌, refl, ap}
use mathlib.Core.Bool.{true, false}
use mathlib.Core.List.{List, [], ◌∷◌}
use mathlib.Core.Option.{some}
use Prim.Native.Nat.{ℕ}
use lib.Dec.{leb, eqb}
use lib.ListN.{length}
use Rattle.std.specs.Prelude.{Option, Some, None, Result, Ok, Err}
use Rattle.rules.specs.Bytes.{one_of, exists}
use Rattle.rules.specs.Answers.{done, refused, number, answer_number, told_received, thrown_received, state_received, Check}
use Rattle.rules.specs.Settings.{block_max, session_ok}
use Rattle.rules.specs.Attributes.{Attribute, attributes, value_of, communities_type}
use Rattle.rules.specs.Changes.{thrown_out, thrown_told, new_flags, Leaves}
use Rattle.rules.specs.Receipt.{receipt_rules, receipt_result, receipt_verdict, state_handed_on, state_left, dropped_received, otc_received}
use Rattle.rules.specs.declared.Session.{Session}
use Rattle.rules.specs.declared.Refusal.{Refusal}
use Rattle.rules.specs.declared.Refusal.TheVariants.{Ineligible, BadSetting, BadLength, NoRoom}
use Rattle.rules.specs.declared.Declined.TheVariants.{Ineligible as NotEligible, Refused}
use Rattle.settings.specs.Told.{told_tag, told_otc}
use Rattle.attributes.specs.Layout.{reading}
use Rattle.attributes.specs.declared.layout.Layout.{Layout}
use Rattle.communities.specs.Tags.{drop_test}
use Rattle.communities.specs.declared.tags.Dropping.{Dropping}
use Rattle.rewriting.specs.Plan.{ReadBlock, outgoing}
use Rattle.verdicts.specs.Judge.{ReceiptRule}
use Rattle.verdicts.proofs.Judging.{receipt_late}
use Rattle.policy.specs.Placed.{GotPlaced, otc_at, taken}
use Rattle.policy.proofs.Readings.{otc-found}
use Rattle.policy.proofs.Deciding.{rewritten-same, decided_setting, decided-length, decided-fault, decided_rule, decided-passed, leaves-refused, leaves-made}

module _ (s : Session) (b before : List ℕ) where
  abbrev rules : List Check
  rules = receipt_rules s (attributes b)

  abbrev result : List Attribute
  result = receipt_result s (attributes b)

  -- A refusal other than by a rule hands nothing on.
  declined : (r : Refusal) → one_of (0 ∷ 1 ∷ []) (number r) ≡ false → eqb (number r) 0 ≡ false → {after : List ℕ}
      → Leaves (receipt_verdict s b) before (refused r) after → GotPlaced s b before (Err (Refused r)) after
  unfolding taken told_received thrown_received state_received thrown_told state_handed_on answer_number
  declined r e f p = record { got = record { got = p; number = rw e refl; stated = rw f refl }; path = tt }

  pub receives_setting : session_ok s ≡ false → GotPlaced s b before (Err (Refused BadSetting)) before
  unfolding receipt_verdict number one_of exists
  receives_setting e = declined BadSetting refl refl (leaves-refused before (decided_setting (session_ok s) b rules (receipt_late s (attributes b)) result e))

  module _ (e : session_ok s ≡ true) where
    pub receives-length : leb (length b) block_max ≡ false → GotPlaced s b before (Err (Refused BadLength)) before
    unfolding receipt_verdict number one_of exists
    receives-length h = declined BadLength refl refl (leaves-refused before (decided-length (session_ok s) b rules (receipt_late s (attributes b)) result e h))

    pub receives-fault : leb (length b) block_max ≡ true → {r : Result Layout Refusal} {f : Refusal} → r ≡ reading b → r ≡ Err f → GotPlaced s b before (Err (Refused f)) before
    unfolding receipt_verdict number one_of exists
    receives-fault h p q =
        let d = decided-fault (session_ok s) b rules (receipt_late s (attributes b)) result e h p q in
        let n = ap number d.0 in
        declined _ (rw n refl) (rw n refl) (leaves-refused before d.1)

    module _ {l : Layout} (w : ReadBlock b l) {k : Option ℕ} (a : ReceiptRule s (otc_at l.otc b) k) where
      pub receives_rule : {n : ℕ} → k ≡ Some n → {thrown : ℕ} → thrown ≡ thrown_out (value_of communities_type (attributes b))
          → GotPlaced s b before (Err (NotEligible n thrown)) before
      unfolding receipt_verdict taken told_received thrown_received state_received thrown_told state_handed_on answer_number number one_of exists
      receives_rule q t =
          let d = decided_rule (session_ok s) b rules (receipt_late s (attributes b)) result e w (λ k. Ineligible k) (a (attributes b) (otc-found w)) q in
          record { got = record { got = leaves-refused before d; number = ap some t; stated = refl }; path = tt }

      module _ (z : k ≡ None) (dropping : Dropping) {flags : ℕ} (asn : Option ℕ) (d : drop_test dropping ≡ dropped_received s) (f : flags ≡ new_flags false) (o : told_otc asn ≡ otc_received s) where
        passed : receipt_verdict s b ≡ done (outgoing dropping flags 3 asn b)
        unfolding receipt_verdict receipt_result told_tag
        passed =
            decided-passed (session_ok s) b rules (receipt_late s (attributes b)) result e w (λ k. Ineligible k) (a (attributes b) (otc-found w)) z
            (rewritten-same (attributes b) d f refl o)

        module _ {after : List ℕ} where
          -- No room, or the block stored.
          pub receives-full : Leaves (done (outgoing dropping flags 3 asn b)) before (refused NoRoom) after → GotPlaced s b before (Err (Refused NoRoom)) after
          unfolding number one_of exists
          receives-full p = declined NoRoom refl refl (leaves-made passed p)

          pub receives-stored : {n thrown state : ℕ} → Leaves (done (outgoing dropping flags 3 asn b)) before (done n) after
              → thrown ≡ thrown_out (value_of communities_type (attributes b)) → state ≡ state_left s (value_of communities_type (attributes b))
              → GotPlaced s b before (Ok (record { length = n; as_path = l.as_path; thrown_out = thrown; state = state })) after
          unfolding taken told_received thrown_received state_received thrown_told state_handed_on answer_number one_of exists
          receives-stored p t u =
              record { got = record { got = leaves-made passed p; number = ap some t; stated = ap some u }; path = (w.clean, ap (λ (z : Layout). z.as_path) w.is) }
