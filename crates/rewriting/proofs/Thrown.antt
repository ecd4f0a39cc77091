-- The communities of a block that has been read by their value where they stand, how many bytes of them are left, and how many tags are
-- thrown out.
use mathlib.Core.Path.{◌≡◌, ap, ◌∙◌}
use mathlib.Core.List.{List}
use Prim.Native.Nat.{ℕ}
use lib.ListN.{length}
use Rattle.rules.specs.Attributes.{attributes, value_of, communities_type}
use Rattle.rules.specs.Changes.{drop_from, thrown_out}
use Rattle.attributes.specs.Layout.{layout, value_at}
use Rattle.attributes.specs.declared.layout.Layout.{Layout}
use Rattle.attributes.proofs.Found.{value_of_lem}
use Rattle.communities.specs.Tags.{drop_test}
use Rattle.communities.specs.declared.tags.Dropping.{Dropping}
use Rattle.rewriting.specs.Plan.{ReadBlock, LeftIn}

module _ {b : List ℕ} {l : Layout} (w : ReadBlock b l) {v : List ℕ} (e : v ≡ value_at l.communities b) where
  pub communities-found : v ≡ value_of communities_type (attributes b)
  unfolding layout
  communities-found = e ∙ rw w.is (value_of_lem communities_type b w.clean)

  pub thrown-found : {n : ℕ} → n ≡ thrown_out v → n ≡ thrown_out (value_of communities_type (attributes b))
  thrown-found q = q ∙ ap thrown_out communities-found

  pub left-found : (dropping : Dropping) {n : ℕ} → n ≡ length (drop_from (drop_test dropping) v) → LeftIn b l dropping n
  left-found dropping q = q ∙ ap (λ (v : List ℕ). length (drop_from (drop_test dropping) v)) e
