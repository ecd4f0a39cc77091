-- `new_otc_found` meets its contract: no AS, no attribute; else one.
use mathlib.Core.Path.{refl, ◌∙◌}
use Rattle.rules.specs.Attributes.{attributes, otc_type}
use Rattle.rules.specs.Bytes.{bytes4}
use Rattle.rules.specs.Changes.{new_attribute}
use Rattle.rewriting.specs.Plan.{new_otcs}
use Rattle.other_make.proofs.Lookups.{looked-form}
use Rattle.other_make.proofs.Finds.{finds_one, finds_none}
use Rattle.other_make.proofs.parts.new_otc_found.Goals as goal

pub returns-in_default : goal.returns-in_default
unfolding new_otcs
returns-in_default c = rw c.in_default.is (finds_none (attributes c.args.sent.now) c.args.so_far).0

pub returns : goal.returns
unfolding new_otcs new_attribute
returns c = let theirs = attributes c.args.sent.now in
    rw c.in-Some.is
    (finds_one theirs c.args.so_far (new_attribute c.args.flags otc_type (bytes4 c.in-Some.asn)) c.then_some.ensures
    (c.look_up.ensures ∙ looked-form theirs _ _ refl refl c.bytes_of-bytes.ensures)).0
