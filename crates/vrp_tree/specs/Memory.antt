-- The lent memory, as triples of numbers. Nodes stand from the front: triple k - 1 is node k, its child for bit 0, its child for bit 1
-- (0: none), and one more than the index of the last record at that node (0: none). Records stand from the back: the triple of record i is
-- the (i + 1)-th from the end, one more than the index of the record before it at the same node (0: none), its maximum length, its ASN.
use Rattle.std.specs.Prelude.{ℕ, ◌+◌, ◌-◌, ◌*◌, ◌/◌, ◌%◌, ◌^◌, ◌≤◌, ◌<◌, ◌≡◌, false, List, [], ◌∷◌, map, length, get_or}
use Rattle.rules.specs.Bytes.{exists}
use Rattle.rules.specs.Origin.{Vrp, vrp_size, vrps, bad_vrp}
use Rattle.vrp_tree.specs.Tree.{own, spot, parts_of, newest}

-- Number d of a node, and of the record `cur - 1`.
abbrev pub node_at : List ℕ → ℕ → ℕ → ℕ
node_at t node d = get_or t ((node - 1) * 3 + d) 0

abbrev pub record_at : List ℕ → ℕ → ℕ → ℕ
record_at t cur d = get_or t ((length t / 3 - cur) * 3 + d) 0

-- How many values a number of the memory has.
abbrev pub values : ℕ
values = 4294967296

-- ## Memory that holds the tree of some records

-- The nodes: ks are the parts that have one, newest first, and xs the records' own parts, newest first.
pub record Tree (xs ks t : List ℕ) : Type 0 where
  pub room : length ks * 3 ≤ length t
  pub root : spot ks 1 ≡ 1
  pub up : (x b : ℕ) → b < 2 → 0 < x → 0 < spot ks (x * 2 + b) → 0 < spot ks x
  pub held : (x : ℕ) → 0 < spot xs x → 0 < spot ks x
  pub kids : (x i b : ℕ) → b < 2 → spot ks x ≡ i + 1 → get_or t (i * 3 + b) 0 ≡ spot ks (x * 2 + b)
  pub heads : (x i : ℕ) → spot ks x ≡ i + 1 → get_or t (i * 3 + 2) 0 ≡ spot xs x

-- A record whose prefix and length a prefix of w bits has.
pub record Fits (w : ℕ) (v : Vrp) : Type 0 where
  pub within : v.prefix < 2 ^ w
  pub long : v.len ≤ w

-- The records, newest first.
pub data Linked (w : ℕ) (t : List ℕ) : List Vrp → Type 0 where
  none : Linked w t []
  more : {v : Vrp} {vs : List Vrp} → Fits w v → record_at t (length vs + 1) 0 ≡ spot (map (own w) vs) (own w v)
      → record_at t (length vs + 1) 1 ≡ v.most → record_at t (length vs + 1) 2 ≡ v.asn → Linked w t vs → Linked w t (v ∷ vs)

-- The index of the records vs, newest first.
pub record Held (w : ℕ) (vs : List Vrp) (t : List ℕ) : Type 0 where
  pub tree : Tree (map (own w) vs) (parts_of w vs) t
  pub linked : Linked w t vs
  pub room : length (parts_of w vs) + length vs ≤ length t / 3

-- What this program means by `Holds` in its promises: the memory has the index of the records of a table that the checks of a table take.
pub record Holds (w : ℕ) (table t : List ℕ) : Type 0 where
  pub whole : length table % vrp_size w ≡ 0
  pub good : exists (bad_vrp w) (vrps w table) ≡ false
  pub index : Held w (newest w table) t
