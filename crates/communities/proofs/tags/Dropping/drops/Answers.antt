-- Every tag is dropped, or the erroneous ones.
use Rattle.communities.specs.Tags.{drop_test}
use Rattle.communities.proofs.tags.Dropping.drops.Goals as goal

pub returns-in-AllTags : goal.returns-in-AllTags
unfolding drop_test
returns-in-AllTags c = rw c.in-AllTags.is c.is_tag.ensures

pub returns-in-ErroneousTags : goal.returns-in-ErroneousTags
unfolding drop_test
returns-in-ErroneousTags c = rw c.in-ErroneousTags.is c.is_erroneous.ensures
