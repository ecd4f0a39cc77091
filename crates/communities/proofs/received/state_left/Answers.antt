-- `state_left` meets its contract: with every tag dropped no state is told, and the erroneous ones tell none.
use mathlib.Core.Path.{sym, ◌∙◌}
use Rattle.rules.proofs.Handing.{tags-gone, erroneous-gone}
use Rattle.communities.specs.Tags.{drop_test}
use Rattle.communities.proofs.received.state_left.Goals as goal

pub returns-in-AllTags : goal.returns-in-AllTags
unfolding drop_test
returns-in-AllTags c = rw c.in-AllTags.is (sym (tags-gone c.args.v.now))

pub returns-in-ErroneousTags : goal.returns-in-ErroneousTags
unfolding drop_test
returns-in-ErroneousTags c = rw c.in-ErroneousTags.is (c.read_tags.ensures.0 ∙ sym (erroneous-gone c.args.v.now))
