-- `all_found` meets its contract: the block's, a new tag, a new OTC.
use mathlib.Core.Path.{◌≡◌, refl, sym, ap, ◌∙◌}
use mathlib.Core.Bool.{Bool, cond}
use mathlib.Core.List.{List}
use native.Mathlib.Omega.{arith}
use lib.ListN.{length}
use Prim.Native.Nat.{ℕ, ◌≤◌}
use Rattle.std.specs.Prelude.{None}
use Rattle.rules.specs.Attributes.{attributes, value_of, communities_type}
use Rattle.rules.specs.Changes.{drop_from}
use Rattle.rules.proofs.Readable.{read-good}
use Rattle.rules.proofs.Dropping.{left}
use Rattle.attributes.specs.declared.layout.Layout.{Layout}
use Rattle.communities.specs.Tags.{drop_test}
use Rattle.communities.specs.declared.tags.Dropping.TheVariants.{AllTags}
use Rattle.rewriting.specs.Plan.{ReadBlock, LeftIn}
use Rattle.rewriting.proofs.Planning.{left-value}
use Rattle.rewriting.proofs.Thrown.{communities-found}
use Rattle.policy.proofs.Readings.{has-found}
use Rattle.other_make.proofs.Ours.{at_most, ours-turned, ours-tagged, ours-found}
use Rattle.other_make.proofs.all_found.Goals as goal

-- How many bytes of communities are left, by the value and by the attributes.
module _ {b : List ℕ} {l : Layout} {n : ℕ} (w : ReadBlock b l) (e : LeftIn b l AllTags n) where
  by_value : n ≡ length (drop_from (drop_test AllTags) (value_of communities_type (attributes b)))
  by_value = e ∙ ap (λ (v : List ℕ). length (drop_from (drop_test AllTags) v)) (communities-found w refl)

  by_left : n ≡ length (left (drop_test AllTags) (attributes b))
  by_left = by_value ∙ ap length (sym (left-value (drop_test AllTags) (attributes b) ((read-good b w.clean).1.once 16)))

pub all_turned_found-requires : goal.all_turned_found-requires
all_turned_found-requires c = (c.requires.0.clean, by_value c.requires.0 c.requires.1)

pub returns-in_err-old : goal.returns-in_err-old
returns-in_err-old c = let a = c.args in
    rw c.from_residual.ensures
    (ours-turned (attributes a.sent.now) (attributes a.block.now) a.flags a.tag a.asn (by_left c.requires.0 c.requires.1) refl c.in_err-old.was c.all_turned_found.ensures.0)

pub new_tag_found-requires : goal.new_tag_found-requires
new_tag_found-requires c = omega (arith, at_most c.in_ok-old.was (length c.args.block.now) c.all_turned_found.ensures.1, c.requires.0.small)

pub returns-in_err-with_tag : goal.returns-in_err-with_tag
returns-in_err-with_tag c = let a = c.args in
    rw c.from_residual-in_err-with_tag.ensures
    (ours-tagged (attributes a.sent.now) (attributes a.block.now) a.flags a.tag a.asn (by_left c.requires.0 c.requires.1) refl
    c.in_ok-old.was c.all_turned_found.ensures.0 c.in_err-with_tag.was c.new_tag_found.ensures.0)

pub new_otc_found-requires : goal.new_otc_found-requires
new_otc_found-requires c =
    let few : c.in_ok-old.old ≤ 4073 = omega (arith, at_most c.in_ok-old.was (length c.args.block.now) c.all_turned_found.ensures.1, c.requires.0.small) in
    omega (arith, few, at_most c.in_ok-with_tag.was _ c.new_tag_found.ensures.1)

pub returns : goal.returns
returns c = let a = c.args in
    ours-found (attributes a.sent.now) (attributes a.block.now) a.flags a.tag a.asn (by_left c.requires.0 c.requires.1)
    (c.otc_to_add-otc.ensures ∙ ap (λ (x : Bool). cond x None a.asn) (sym (has-found c.requires.0)))
    c.in_ok-old.was c.all_turned_found.ensures.0 c.in_ok-with_tag.was c.new_tag_found.ensures.0 c.new_otc_found.result c.new_otc_found.ensures
