-- What is found of a block that has been read: whether it has an OTC, the AS that this names, and the state that the tags left tell.
use mathlib.Core.Path.{◌≡◌, refl, ◌∙◌}
use mathlib.Core.Bool.{Bool, true}
use mathlib.Core.List.{List}
use Prim.Native.Nat.{ℕ}
use lib.Dec.{leb, ltb}
use lib.ListN.{length}
use borrow.Author.Tests.{leb-true}
use Rattle.rules.specs.Settings.{block_max}
use Rattle.rules.specs.Attributes.{attributes, has_otc, value_of, communities_type, otc_type}
use Rattle.attributes.specs.Layout.{layout, reading, value_at}
use Rattle.attributes.specs.declared.layout.Layout.{Layout}
use Rattle.attributes.proofs.Found.{value_of_lem, has_of, otc_as_of, clean-read}
use Rattle.rules.specs.Changes.{drop_from}
use Rattle.rules.specs.Origin.{tag_values, tag_state}
use Rattle.rules.specs.Receipt.{dropped_received, state_left}
use Rattle.rules.specs.declared.Session.{Session}
use Rattle.rules.specs.declared.Refusal.{Refusal}
use Rattle.std.specs.Prelude.{Result, Ok}
use Rattle.rewriting.specs.Plan.{ReadBlock}
use Rattle.verdicts.specs.Judge.{otc_in}
use Rattle.policy.specs.Placed.{otc_at}
use Rattle.rewriting.proofs.Thrown.{communities-found}

pub read-clean : (b : List ℕ) → leb (length b) block_max ≡ true → {r : Result Layout Refusal} → r ≡ reading b → {l : Layout} → r ≡ Ok l → ReadBlock b l
read-clean b h p z =
    let k = clean-read b p z in
    record { clean = k.0; is = k.1; small = leb-true (length b) block_max h }

module _ {b : List ℕ} {l : Layout} (w : ReadBlock b l) where
  pub has-found : has_otc (attributes b) ≡ ltb l.otc (length b)
  unfolding layout has_otc
  has-found = rw w.is (has_of otc_type b w.clean)

  pub otc-found : otc_in (attributes b) ≡ otc_at l.otc b
  unfolding layout otc_in otc_at
  otc-found =
      let f : value_at l.otc b ≡ value_of otc_type (attributes b) = rw w.is (value_of_lem otc_type b w.clean) in
      rw (f, has-found, otc_as_of b w.clean) refl

  pub state-found : (s : Session) {v : List ℕ} → v ≡ value_at l.communities b → {dropped : List ℕ → Bool} → dropped ≡ dropped_received s
      → {r : ℕ} → r ≡ tag_state (tag_values (drop_from dropped v)) → r ≡ state_left s (value_of communities_type (attributes b))
  unfolding state_left
  state-found s e d q = q ∙ rw (d, communities-found w e) refl
