-- Tags as the code hands them on: the test of which communities are dropped, what is left of one community, and the bytes of a new tag
-- by its state. Internal: `drop_communities` and `tag` of `rules` say what they come to.
use Rattle.std.specs.Prelude.{Bool, cond, List, [], ℕ, leb}
use Rattle.rules.specs.Settings.{invalid}
use Rattle.rules.specs.Changes.{is_tag, is_erroneous, tag}
use Rattle.communities.specs.declared.tags.Dropping.{Dropping}
use Rattle.communities.specs.declared.tags.Dropping.TheVariants.{AllTags, ErroneousTags}

-- "drop every community that begins 43 00"; or, 02, Q-11: "only those … that have a value above 2".
unfoldable pub drop_test : Dropping → List ℕ → Bool
drop_test AllTags = is_tag
drop_test ErroneousTags = is_erroneous

-- What is left of a community: nothing of one that is dropped, else all of it.
unfoldable pub kept : (List ℕ → Bool) → List ℕ → List ℕ
kept dropped c = cond (dropped c) [] c

-- The bytes of a tag that tells a state: none where it tells none.
unfoldable pub tag_bytes : ℕ → List ℕ
tag_bytes state = cond (leb state invalid) (tag state) []
