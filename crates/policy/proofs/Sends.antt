-- What is decided of a block to send, by what each of the two calls finds in turn: the laws of Deciding.antt for sending.
use mathlib.Core.Path.{◌≡◌, refl, ◌∙◌}
use mathlib.Core.Bool.{Bool, true, false, ◌&&◌}
use mathlib.Core.List.{List}
use Prim.Native.Nat.{ℕ}
use lib.Dec.{leb, ltb, eqb}
use lib.ListN.{length}
use Rattle.rules.specs.Answers.{done, refused, Check}
use Rattle.rules.specs.Settings.{block_max, session_ok, source_ok, state_ok}
use Rattle.rules.specs.Attributes.{Attribute, attributes, fault}
use Rattle.rules.specs.Changes.{new_flags}
use Rattle.rules.specs.Sending.{own_route, sending_rules, tag_sent, otc_sent, sending_result, sending_verdict}
use Rattle.rules.specs.declared.Session.{Session}
use Rattle.rules.specs.declared.Refusal.TheVariants.{Withheld, Malformed, BadSetting, BadLength}
use Rattle.rules.proofs.Lists.{and_left}
use Rattle.settings.specs.Told.{told_tag, told_otc}
use Rattle.attributes.specs.Layout.{reading}
use Rattle.attributes.specs.declared.layout.Layout.{Layout}
use Rattle.communities.specs.Tags.{drop_test}
use Rattle.rewriting.specs.Plan.{ReadBlock, outgoing}
use Rattle.std.specs.Prelude.{Option, Some, None, Result, Err}
use Rattle.communities.specs.declared.tags.Dropping.TheVariants.{AllTags}
use Rattle.rules.specs.declared.Refusal.{Refusal}
use Rattle.verdicts.specs.Judge.{SendingRule}
use Rattle.verdicts.proofs.Judging.{sending_late}
use Rattle.policy.proofs.Readings.{has-found}
use Rattle.policy.proofs.Deciding.{rewritten-same, decided_setting, decided-length, decided-fault, decided_rule, decided-passed}

module _ (s : Session) (source state : ℕ) (b : List ℕ) where
  abbrev pub sending_ok : Bool
  sending_ok = session_ok s && source_ok source && state_ok state

  abbrev pub rules : List Check
  rules = sending_rules s source state (attributes b)

  abbrev result : List Attribute
  result = sending_result s source state (attributes b)

  pub sends_setting : sending_ok ≡ false → sending_verdict s source state b ≡ refused BadSetting
  unfolding sending_verdict
  sends_setting e = decided_setting sending_ok b rules (sending_late s source state (attributes b)) result e

  module _ (e : sending_ok ≡ true) where
    pub sends-session : session_ok s ≡ true
    sends-session = and_left (session_ok s) (source_ok source) (and_left (session_ok s && source_ok source) (state_ok state) e)

    pub sends-length : leb (length b) block_max ≡ false → sending_verdict s source state b ≡ refused BadLength
    unfolding sending_verdict
    sends-length h = decided-length sending_ok b rules (sending_late s source state (attributes b)) result e h

    pub sends-fault : leb (length b) block_max ≡ true → {r : Result Layout Refusal} {f : Refusal} → r ≡ reading b → r ≡ Err f
        → (f ≡ Malformed (fault b)) × (sending_verdict s source state b ≡ refused f)
    unfolding sending_verdict
    sends-fault h p q = decided-fault sending_ok b rules (sending_late s source state (attributes b)) result e h p q

    module _ {l : Layout} (w : ReadBlock b l) {has : Bool} (h : ltb l.otc (length b) ≡ has) {k : Option ℕ} (a : SendingRule s source state has k) where
      pub sends_rule : {n : ℕ} → k ≡ Some n → sending_verdict s source state b ≡ refused (Withheld n)
      unfolding sending_verdict
      sends_rule q =
          decided_rule sending_ok b rules (sending_late s source state (attributes b)) result e w (λ k. Withheld k) (a (attributes b) (has-found w ∙ h)) q

      -- Every tag is dropped, and the flags, the tag and the OTC are those of the definition.
      pub sends-passed : k ≡ None → {flags : ℕ} (tag : ℕ) (asn : Option ℕ) → flags ≡ new_flags (eqb source own_route) → told_tag tag ≡ tag_sent s source state
          → told_otc asn ≡ otc_sent s source state → sending_verdict s source state b ≡ done (outgoing AllTags flags tag asn b)
      unfolding sending_verdict sending_result drop_test
      sends-passed z tag asn f t o =
          decided-passed sending_ok b rules (sending_late s source state (attributes b)) result e w (λ k. Withheld k) (a (attributes b) (has-found w ∙ h)) z
          (rewritten-same (attributes b) refl f t o)
