-- What measuring and storing a block promise. Internal: `Got`, `Measured` and `Sent` of `rules` say what receipt and sending do.
use Rattle.std.specs.Prelude.{◌≡◌, List, ℕ, length, Option, Some, None}
use Rattle.rules.specs.Answers.{Answer, done, refused}
use Rattle.rules.specs.Attributes.{attributes, value_of, encode, communities_type}
use Rattle.rules.specs.Changes.{thrown_out, Leaves}
use Rattle.rules.specs.declared.Refusal.TheVariants.{NoRoom}
use Rattle.rewriting.specs.Plan.{outgoing}
use Rattle.rewriting.specs.declared.plan.Written.{Written}
use Rattle.communities.specs.declared.tags.Dropping.{Dropping}

unfoldable pub told_output : Option Written → Answer ℕ
told_output (Some w) = done w.length
told_output None = refused NoRoom

-- With what is stored, how many tags of the block are thrown out.
abbrev pub Counts : List ℕ → Option Written → Type 0
Counts b (Some w) = w.thrown_out ≡ thrown_out (value_of communities_type (attributes b))
Counts b None = Unit {0}

-- How long the block is as it goes out.
abbrev pub Measures : Dropping → ℕ → ℕ → Option ℕ → List ℕ → ℕ → Type 0
Measures dropping flags tag asn b size = size ≡ length (encode (outgoing dropping flags tag asn b))

-- The block is stored as it goes out.
abbrev pub Rewrites : Dropping → ℕ → ℕ → Option ℕ → List ℕ → List ℕ → Option Written → List ℕ → Type 0
Rewrites dropping flags tag asn b before r after = Leaves (done (outgoing dropping flags tag asn b)) before (told_output r) after
