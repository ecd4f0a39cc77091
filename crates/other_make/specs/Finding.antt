-- How our attributes are looked up in the block that another make sent, and what that tells. Internal: `same_attributes` and `allowed` of `rules` say
-- what it comes to.
use Rattle.std.specs.Prelude.{◌≡◌, Bool, true, false, cond, ◌&&◌, List, [], ◌∷◌, ℕ, ◌+◌, ◌≤◌, leb, length, Option, Some, None}
use Rattle.rules.specs.Bytes.{every}
use Rattle.rules.specs.Rows.{chop, whole}
use Rattle.rules.specs.Answers.{Answer, done, refused}
use Rattle.rules.specs.Settings.{block_max}
use Rattle.rules.specs.Attributes.{Attribute, attributes, attribute_size, encode, encode_one, is_type, readable, communities_type}
use Rattle.rules.specs.Changes.{drop_from}
use Rattle.rules.specs.OtherMake.{alike, same_attributes, yes, no}
use Rattle.rules.specs.declared.Refusal.TheVariants.{NoRoom}
use Rattle.communities.specs.declared.tags.Dropping.TheVariants.{AllTags}
use Rattle.communities.specs.Tags.{drop_test}

-- The bytes of the first attribute of a type; none where there is none.
unfoldable pub item_of : ℕ → List Attribute → List ℕ
item_of t [] = []
item_of t (a ∷ l) = cond (is_type t a) (encode_one a) (item_of t l)

-- Whether the first attribute of its type is alike.
unfoldable pub looked_up : List Attribute → Attribute → Bool
looked_up [] a = false
looked_up (b ∷ theirs) a = cond (is_type a.type b) (alike a b) (looked_up theirs a)

-- An attribute by what is compared of it: the length bytes are not.
abbrev pub compared : ℕ → ℕ → List ℕ → Attribute
compared flags type v = record { flags = flags; type = type; len = []; value = v }

-- What looking up some of ours tells, where k went before: how many they are with those, where each is found; none where one is missing.
abbrev pub FindsFrom : ℕ → List Attribute → List Attribute → Option ℕ → Type 0
FindsFrom k theirs ours (Some n) = (every (looked_up theirs) ours ≡ true) × (n ≡ k + length ours)
FindsFrom k theirs ours None = every (looked_up theirs) ours ≡ false

-- No more than k were found.
abbrev pub AtMost : ℕ → Option ℕ → Type 0
AtMost k (Some n) = n ≤ k
AtMost k None = Unit {0}

-- The communities attribute, where this is it, has so many bytes of communities left.
abbrev pub LeavesBytes : ℕ → Attribute → Type 0
LeavesBytes left a = is_type communities_type a ≡ true → left ≡ length (drop_from (drop_test AllTags) a.value)

-- What counting the attributes of a block tells: how many they are; none where there is an overrun.
abbrev pub Counts : List ℕ → Option ℕ → Type 0
Counts b (Some n) = (whole (chop attribute_size b) ≡ true) × (n ≡ length (attributes b))
Counts b None = whole (chop attribute_size b) ≡ false

-- What comparing answers, where these are our attributes.
unfoldable pub comparison : List Attribute → List ℕ → Answer ℕ
comparison ours sent =
    cond (leb (length (encode ours)) block_max) (done (cond (readable sent && same_attributes ours (attributes sent)) yes no)) (refused NoRoom)
