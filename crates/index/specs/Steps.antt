-- One node more, one record more: what each step leaves in memory.
use Rattle.std.specs.Prelude.{ℕ, ◌+◌, ◌-◌, ◌*◌, ◌/◌, ◌^◌, ◌≤◌, ◌<◌, ◌≡◌, List, ◌∷◌, length, get_or, set, drop, Option, Some, None}
use Rattle.rules.specs.Settings.{vrps_max}
use Rattle.rules.specs.Origin.{Vrp}
use Rattle.vrp_tree.specs.Tree.{spot, grown, parts_of}
use Rattle.vrp_tree.specs.Memory.{node_at, Tree, Held}

-- The nodes that an index has at most: for each of 4,096 records one to each of 128 bits, and the root.
abbrev pub nodes_max : ℕ
nodes_max = 524289

-- The part x is there but for its last `left` bits: the node is that of the bits before them, and the part with one bit more has none.
pub record Reached (ks : List ℕ) (x left node : ℕ) : Type 0 where
  pub here : spot ks (x / 2 ^ left) ≡ node
  pub ends : 0 < left → spot ks (x / 2 ^ (left - 1)) ≡ 0

-- How far the part x of `len` bits is there, in memory of `nodes` nodes.
pub record Reach (t : List ℕ) (x len nodes node left : ℕ) : Type 0 where
  pub within : (0 < node) × (node ≤ nodes) × (left ≤ len)
  pub reached : (xs ks : List ℕ) → Tree xs ks t → length ks ≡ nodes → x / 2 ^ len ≡ 1 → Reached ks x left node

-- Node k + 1 is made, the child for bit b of node i + 1.
pub record Grown (t : List ℕ) (k i b : ℕ) (t' : List ℕ) : Type 0 where
  pub size : length t' ≡ length t
  pub fresh : (d : ℕ) → d < 3 → get_or t' (k * 3 + d) 0 ≡ 0
  pub here : get_or t' (i * 3 + b) 0 ≡ k + 1
  pub rest : (j : ℕ) → (j / 3 ≡ k → ⊥) → (j ≡ i * 3 + b → ⊥) → get_or t' j 0 ≡ get_or t j 0
  pub after : drop ((k + 1) * 3) t' ≡ drop ((k + 1) * 3) t

-- The nodes for the last `left` bits of the part x are made, each the child of the one before; the last is the part's own.
pub record Extended (t : List ℕ) (x left node nodes : ℕ) (t' : List ℕ) (last : ℕ) : Type 0 where
  pub size : length t' ≡ length t
  pub after : drop ((nodes + left) * 3) t' ≡ drop ((nodes + left) * 3) t
  pub within : (0 < last) × (last ≤ nodes + left)
  pub made : (xs ks : List ℕ) → Tree xs ks t → length ks ≡ nodes → 0 < x / 2 ^ left → Reached ks x left node
      → Tree xs (grown left x ks) t' × (spot (grown left x ks) x ≡ last) × (length (grown left x ks) ≡ nodes + left)

-- The triple of a record is stored at the triple `cap`, and it becomes the last at a node.
abbrev pub stored_at : List ℕ → ℕ → ℕ → ℕ → ℕ → ℕ → List ℕ
stored_at t cap node most asn name =
    set (set (set (set t (cap * 3) (node_at t node 2)) (cap * 3 + 1) most) (cap * 3 + 2) asn) ((node - 1) * 3 + 2) name

-- One record more: the index holds it too, with so many nodes, or there is no room for it.
pub record Put (w : ℕ) (v : Vrp) (vs : List Vrp) (t t' : List ℕ) (made : Option ℕ) : Type 0 where
  pub full : made ≡ None → length t / 3 < length (parts_of w (v ∷ vs)) + length (v ∷ vs)
  pub held : (n : ℕ) → made ≡ Some n → Held w (v ∷ vs) t'
  pub count : (n : ℕ) → made ≡ Some n → length (parts_of w (v ∷ vs)) ≡ n

-- A record, put into memory that holds the index of `records` records with `nodes` nodes. Where there is no room nothing is stored,
-- whatever the memory holds.
pub record Puts (w : ℕ) (v : Vrp) (t : List ℕ) (records nodes : ℕ) (t' : List ℕ) (made : Option ℕ) : Type 0 where
  pub kept : made ≡ None → t' ≡ t
  pub put : (vs : List Vrp) → Held w vs t → length vs ≡ records → length (parts_of w vs) ≡ nodes → records < vrps_max → Put w v vs t t' made
