-- What is planned for a block before any byte of it is stored, and the bytes that the plan stands for. Internal: `rewritten` of
-- `rules` says what they come to.
use Rattle.std.specs.Prelude.{◌≡◌, Bool, true, cond, ◌&&◌, ◌⊎◌, ℕ, ◌+◌, ◌-◌, ◌≤◌, ◌<◌, leb, ltb, eqb, length, get_or, Option, Some, None}
use mathlib.Core.List.{List, [], ◌∷◌, ◌++◌, flat_map}
use Rattle.rules.specs.Bytes.{part, is_empty, bytes2, bytes4}
use Rattle.rules.specs.Settings.{block_max, invalid}
use Rattle.rules.specs.Attributes.{Attribute, attribute, attributes, long, length_bytes, encode_one, encode, is_type, readable, communities_type, otc_type}
use Rattle.rules.specs.Changes.{tag, drop_from, with_value, new_attribute, rewritten}
use Rattle.settings.specs.Told.{told_tag, told_otc}
use Rattle.attributes.specs.Layout.{layout, value_at}
use Rattle.attributes.specs.declared.layout.Layout.{Layout}
use Rattle.communities.specs.Tags.{drop_test, tag_bytes}
use Rattle.communities.specs.declared.tags.Dropping.{Dropping}
use Rattle.rewriting.specs.declared.plan.Plan.{Plan}

-- The flags of an attribute that gets a value of n bytes: a short form that n passes becomes long; and its header.
unfoldable pub value_flags : ℕ → ℕ → ℕ
value_flags flags n = cond (long flags) flags (cond (leb n 255) flags (flags + 0x10))

unfoldable pub header : ℕ → ℕ → ℕ → List ℕ
header flags kind n =
    cond (long (value_flags flags n)) (value_flags flags n ∷ kind ∷ bytes2 n) (value_flags flags n ∷ kind ∷ n ∷ [])

-- The communities that are left of a communities attribute, which is these bytes.
unfoldable pub left_of : (List ℕ → Bool) → List ℕ → List ℕ
left_of dropped item = drop_from dropped (attribute item).value

-- The attribute as it goes out: without what is dropped, with a tag last; gone whole where no community is left.
unfoldable pub community_bytes : (List ℕ → Bool) → ℕ → List ℕ → List ℕ
community_bytes dropped state item =
    cond (is_empty (left_of dropped item)) [] (encode_one (with_value (attribute item) (left_of dropped item ++ tag_bytes state)))

-- Its size, whatever is dropped, where `left` bytes of communities are left.
abbrev pub CommunitySize : List ℕ → ℕ → ℕ → ℕ → Type 0
CommunitySize item left state r =
    (dropped : List ℕ → Bool) → left ≡ length (left_of dropped item) → r ≡ length (community_bytes dropped state item)

-- Each attribute as it goes out, apart from new ones: communities without what is dropped and with a tag last, others as they are.
unfoldable pub turned : (List ℕ → Bool) → ℕ → Attribute → List Attribute
turned dropped state a =
    cond (is_type communities_type a)
    (cond (is_empty (drop_from dropped a.value)) [] (with_value a (drop_from dropped a.value ++ tag_bytes state) ∷ []))
    (a ∷ [])

unfoldable pub turned_all : (List ℕ → Bool) → ℕ → List Attribute → List Attribute
turned_all dropped state l = flat_map (turned dropped state) l

-- New ones, as lists of one or none: a tag where no community is left, and an OTC.
unfoldable pub new_tags : ℕ → ℕ → ℕ → List Attribute
new_tags flags left state = cond (eqb left 0 && leb state invalid) (new_attribute flags communities_type (tag state) ∷ []) []

unfoldable pub new_otcs : ℕ → Option ℕ → List Attribute
new_otcs flags None = []
new_otcs flags (Some asn) = new_attribute flags otc_type (bytes4 asn) ∷ []

-- The bytes of new ones.
unfoldable pub new_tag_bytes : ℕ → ℕ → ℕ → List ℕ
new_tag_bytes flags left state = cond (eqb left 0 && leb state invalid) (encode_one (new_attribute flags communities_type (tag state))) []

unfoldable pub new_otc_bytes : ℕ → Option ℕ → List ℕ
new_otc_bytes flags None = []
new_otc_bytes flags (Some asn) = encode_one (new_attribute flags otc_type (bytes4 asn))

-- The communities attribute of a block, by its plan.
unfoldable pub item : List ℕ → Plan → List ℕ
item b p = part p.communities (p.rest - p.communities) b

-- The bytes from one place to another as they go out.
unfoldable pub piece : List ℕ → Plan → ℕ → ℕ → List ℕ
piece b p from to =
    cond (leb from p.communities && ltb p.communities to)
    (part from (p.communities - from) b ++ (community_bytes (drop_test p.dropping) p.tag (item b p) ++ part p.rest (to - p.rest) b))
    (part from (to - from) b)

-- All of it: the new tag and the new OTC at their places.
unfoldable pub emitted : List ℕ → Plan → List ℕ
emitted b p =
    piece b p 0 p.new_tag ++ (new_tag_bytes p.flags p.left p.tag ++ (piece b p p.new_tag p.new_otc ++ (new_otc_bytes p.flags p.otc ++ piece b p p.new_otc (length b))))

-- A place does not lie inside the communities attribute.
abbrev pub Clear : Plan → ℕ → Type 0
Clear p at = (at ≤ p.communities) ⊎ (p.rest ≤ at)

-- The bytes of a whole attribute: a header, and a value within them.
pub record Whole (a : List ℕ) : Type 0 where
  pub two : 2 ≤ length a
  pub header : 2 + length_bytes (get_or a 0 0) ≤ length a

-- A whole communities attribute within a block, and how many bytes of communities are left of it.
pub record Leaving (dropped : List ℕ → Bool) (a : List ℕ) (left : ℕ) : Type 0 where
  pub whole : Whole a
  pub is : left ≡ length (left_of dropped a)
  pub few : left ≤ block_max

-- A plan that fits a block.
pub record PlanOk (b : List ℕ) (p : Plan) : Type 0 where
  pub from : p.communities ≤ p.rest
  pub to : p.rest ≤ length b
  pub leaving : p.communities < length b → Leaving (drop_test p.dropping) (item b p) p.left
  pub tag_place : p.new_tag ≤ p.new_otc
  pub otc_place : p.new_otc ≤ length b
  pub tag_clear : Clear p p.new_tag
  pub otc_clear : Clear p p.new_otc

-- The bytes from one place to another can be stored at an index of a buffer.
abbrev pub Fits : List ℕ → Plan → ℕ → ℕ → List ℕ → ℕ → Type 0
Fits b p from to out at =
    PlanOk b p × (from ≤ to) × (to ≤ length b) × Clear p to × (at + length (piece b p from to) ≤ length out)

-- A plan stands for attributes: it fits the block, its bytes are theirs, and it knows how many they are.
pub record Stands (b : List ℕ) (m : List Attribute) (p : Plan) : Type 0 where
  pub ok : PlanOk b p
  pub is : emitted b p ≡ encode m
  pub size : p.size ≡ length (emitted b p)

-- What `rules` makes of a block with what is dropped, the flags, the state of a tag and the AS of an OTC; and a plan that stands for it.
abbrev pub outgoing : Dropping → ℕ → ℕ → Option ℕ → List ℕ → List Attribute
outgoing dropping flags state asn b = rewritten (drop_test dropping) flags (told_tag state) (told_otc asn) (attributes b)

abbrev pub Planned : List ℕ → Dropping → ℕ → ℕ → Option ℕ → Plan → Type 0
Planned b dropping flags state asn p = Stands b (outgoing dropping flags state asn b) p

-- A block that has been read: it is readable, not too long, and the layout is its own.
pub record ReadBlock (b : List ℕ) (l : Layout) : Type 0 where
  pub clean : readable b ≡ true
  pub is : l ≡ layout (attributes b)
  pub small : length b ≤ block_max

-- How many bytes of communities are left in it, by which are dropped.
abbrev pub LeftIn : List ℕ → Layout → Dropping → ℕ → Type 0
LeftIn b l dropping left = left ≡ length (drop_from (drop_test dropping) (value_at l.communities b))

-- What the size of a block as it goes out is found from: its communities attribute, k bytes at a place (none where k is 0), and the
-- bytes of communities left in it.
pub record Sizing (b : List ℕ) (at k left : ℕ) : Type 0 where
  pub within : (k ≡ 0 → ⊥) → at + k ≤ length b
  pub whole : (k ≡ 0 → ⊥) → Whole (part at k b)
  pub few : (k ≡ 0 → ⊥) → left ≤ k
  pub small : length b ≤ block_max

unfoldable pub turned_size : (List ℕ → Bool) → List ℕ → ℕ → ℕ → ℕ → ℕ
turned_size dropped b at k state = cond (eqb k 0) (length b) (length b - k + length (community_bytes dropped state (part at k b)))

-- The size that is found so, whatever is dropped.
abbrev pub TurnedSize : List ℕ → ℕ → ℕ → ℕ → ℕ → ℕ → Type 0
TurnedSize b at k left state r =
    (dropped : List ℕ → Bool) → ((k ≡ 0 → ⊥) → left ≡ length (left_of dropped (part at k b))) → r ≡ turned_size dropped b at k state
