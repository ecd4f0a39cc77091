-- What the steps of a look-up promise: with fewer bits left, from the node that it has come to, it gives what it gave before.
use Rattle.std.specs.Prelude.{ℕ, suc, ◌+◌, ◌-◌, ◌/◌, ◌%◌, ◌^◌, ◌≤◌, ◌<◌, ◌≡◌, List}
use Rattle.vrp_tree.specs.Memory.{values}
use Rattle.lookup.specs.Look.{look_of}

-- Where a look-up can go on from, and what it may have seen: no count comes near 200.
abbrev pub Ready : ℕ → ℕ → Type 0
Ready node seen = (0 < node) × (node < values) × (seen / 4 < 200)

-- One bit b down from a node.
pub record Stepped (t : List ℕ) (len asn b node seen node' seen' : ℕ) : Type 0 where
  pub on : (left q : ℕ) → q / 2 ^ left % 2 ≡ b → look_of t len asn (suc left) q node seen ≡ look_of t len asn left q node' seen'
  pub few : node' < values
  pub count : seen' / 4 ≤ seen / 4 + 1

-- The next eight of the bits left of q, or as many as are left, stand in an octet from its first bit on.
abbrev pub Begins : ℕ → ℕ → ℕ → Type 0
Begins octet left q = (k : ℕ) → k < 8 → k < left → q / 2 ^ (left - suc k) % 2 ≡ octet / 2 ^ (7 - k) % 2

-- The bits of an octet down from a node, with `left` bits to go before and left' after.
pub record Descended (t : List ℕ) (len asn octet left node seen left' node' seen' : ℕ) : Type 0 where
  pub on : (q : ℕ) → Begins octet left q → look_of t len asn left q node seen ≡ look_of t len asn left' q node' seen'
  pub few : node' < values
  pub count : seen' / 4 + left' ≤ seen / 4 + left

-- No bit is left: what is seen with the last node, if there is one.
abbrev pub Arrived : List ℕ → ℕ → ℕ → ℕ → ℕ → ℕ → Type 0
Arrived t len asn node seen r = (q : ℕ) → r ≡ look_of t len asn 0 q node seen
