-- `is_erroneous` meets its contract: a tag, and its last byte above 2.
use mathlib.Core.Path.{sym, ◌∙◌}
use Rattle.rules.specs.Changes.{is_erroneous}
use Rattle.communities.proofs.tags.is_erroneous.Goals as goal

pub returns-then-not-is_tag : goal.returns-then-not-is_tag
unfolding is_erroneous
returns-then-not-is_tag c = rw (sym c.is_tag.ensures ∙ c.if-not-is_tag.true)

pub returns : goal.returns
unfolding is_erroneous
returns c = rw (sym c.is_tag.ensures ∙ c.if-not-is_tag.false)
