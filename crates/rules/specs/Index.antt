-- 02, Q-7: an index over a table of VRPs. Its nodes are said of the table alone; how the lent memory holds them is the program's own.
use Rattle.std.specs.Prelude.{ℕ, zero, suc, ◌+◌, ◌-◌, ◌/◌, ◌≤◌, ◌<◌, ◌≡◌, Bool, not, cond, ◌&&◌, ◌||◌, List, [], ◌∷◌, ◌++◌, leb, ltb, eqb, length, replicate, Result, Ok, Err}
use Rattle.std.proofs.Math.Option.{some}
use Rattle.rules.specs.Bytes.{exists}
use Rattle.rules.specs.Answers.{Answer, done, refused, answer_number, beside_number, answer, order, ◌when◌}
use Rattle.rules.specs.Settings.{prefix_length_ok}
use Rattle.rules.specs.Origin.{Vrp, vrps, vrp_size, agree, state_in, table_checks}
use Rattle.rules.specs.declared.Refusal.{Refusal}
use Rattle.rules.specs.declared.Refusal.TheVariants.{BadSetting, BadLength, NoRoom}
use Rattle.rules.specs.declared.LookedUp.{LookedUp}

-- How many numbers below n pass a test.
unfoldable pub counted : (ℕ → Bool) → ℕ → ℕ
counted f zero = 0
counted f (suc n) = cond (f n) 1 0 + counted f n

-- A node is a leading part of a VRP's prefix, "up to its own length"; the empty part is one "even for an empty table". Whether the m
-- leading bits of a prefix are a node:
unfoldable pub is_node : ℕ → List Vrp → ℕ → ℕ → Bool
is_node w l prefix m = eqb m 0 || exists (λ v. leb m v.len && agree w m v.prefix prefix) l

-- "how many nodes it visited: those in the tree that lie on the route's prefix, the root counted"
unfoldable pub visited_in : ℕ → List Vrp → ℕ → ℕ → ℕ
visited_in w l prefix len = counted (is_node w l prefix) (suc len)

-- How many leading parts of a VRP's prefix, up to its own length, are of none of the VRPs before it; and that of each VRP of l.
unfoldable pub new_nodes : ℕ → List Vrp → Vrp → ℕ
new_nodes w before v = counted (λ m. not (is_node w before v.prefix m)) (suc v.len)

unfoldable pub nodes_after : ℕ → List Vrp → List Vrp → ℕ
nodes_after w before [] = 0
nodes_after w before (v ∷ l) = new_nodes w before v + nodes_after w (v ∷ before) l

-- "the distinct leading parts of the table's prefixes, each up to its own length and the empty one counted even for an empty table"
unfoldable pub nodes_in : ℕ → List Vrp → ℕ
nodes_in w l = 1 + nodes_after w [] l

-- The memory is numbers of 32 bits, three to a node and three to a record: "the nodes lent" are the triples that the records leave.
unfoldable pub nodes_lent : List ℕ → List Vrp → ℕ
nodes_lent memory l = length memory / 3 - length l

-- "build 6, 9, then 7 exactly when the distinct leading parts … exceed the nodes lent"; else how many nodes were made.
unfoldable pub build_index : ℕ → List ℕ → List ℕ → Answer ℕ
build_index w table memory =
    let l = vrps w table in
    answer order (table_checks w table ++ (NoRoom when ltb (nodes_lent memory l) (nodes_in w l) ∷ [])) (nodes_in w l)

-- One record more, at the end of the table: 6 for bytes that are not one record, else as the build of the longer table answers.
unfoldable pub insert_record : ℕ → List ℕ → List ℕ → List ℕ → Answer ℕ
insert_record w table added memory = cond (eqb (length added) (vrp_size w)) (build_index w (table ++ added) memory) (refused BadLength)

-- What a look-up tells: the state, and how many nodes it visited.
pub record Finding : Type 0 where
  pub state : ℕ
  pub visited : ℕ

-- "Its state equals the plain scan's for the table it was built from, for every route"; "look-up 5". The origin is an ASN; 0, which never
-- matches, stands for none.
unfoldable pub look_up : ℕ → List Vrp → ℕ → ℕ → ℕ → Answer Finding
look_up w l prefix len asn =
    answer order (BadSetting when not (prefix_length_ok w len) ∷ [])
    (record { state = state_in w l prefix len (some asn); visited = visited_in w l prefix len })

-- "In memory that no build filled, or beside another table, it still ends, with some state from 0 to 3 and a count within the bounds": at
-- most one node for each of the route's bits and the root, so 33 for IPv4 and 129 for IPv6.
unfoldable pub Within : ℕ → ℕ → Answer Finding → Type 0
Within w len (done f) = (len ≤ w) × (f.state ≤ 3) × (f.visited ≤ suc len)
Within w len (refused r) = (w < len) × (r ≡ BadSetting)

-- ## What the three functions promise. `Holds w table memory` says which memory holds the index of a table: it is the program's to
-- choose, and callers rely on nothing of it but these promises, which all speak of the same one.

-- The look-up.
pub record LooksUp (Holds : ℕ → List ℕ → List ℕ → Type 0) (w : ℕ) (memory : List ℕ) (prefix len asn : ℕ) (a : Answer Finding) : Type 0 where
  pub exact : (table : List ℕ) → Holds w table memory → a ≡ look_up w (vrps w table) prefix len asn
  pub within : Within w len a

-- The build: "on 7 the lent memory is all zeros, the one exception to demand 1".
pub record Builds (Holds : ℕ → List ℕ → List ℕ → Type 0) (w : ℕ) (table memory : List ℕ) (a : Answer ℕ) (memory' : List ℕ) : Type 0 where
  pub told : a ≡ build_index w table memory
  pub held : (nodes : ℕ) → a ≡ done nodes → Holds w table memory'
  pub cleared : a ≡ refused NoRoom → memory' ≡ replicate (length memory) 0
  pub kept : (r : Refusal) → a ≡ refused r → (r ≡ NoRoom → ⊥) → memory' ≡ memory

-- One record more, for a caller that says how many records the table has and how many nodes its index: the memory comes to hold the table
-- with the record at its end, or a refusal leaves it as it was. In memory that holds no such index a refusal leaves it too.
pub record Inserts (Holds : ℕ → List ℕ → List ℕ → Type 0) (w : ℕ) (added memory : List ℕ) (records nodes : ℕ) (a : Answer ℕ) (memory' : List ℕ) : Type 0 where
  pub told : (table : List ℕ) → Holds w table memory → length (vrps w table) ≡ records → nodes_in w (vrps w table) ≡ nodes
      → a ≡ insert_record w table added memory
  pub held : (table : List ℕ) → Holds w table memory → length (vrps w table) ≡ records → nodes_in w (vrps w table) ≡ nodes
      → (n : ℕ) → a ≡ done n → Holds w (table ++ added) memory'
  pub kept : (r : Refusal) → a ≡ refused r → memory' ≡ memory

-- An index in use: memory that a build left and that any number of insertions changed since, with the table that has their records at its
-- end. Of the calls only the promises are known.
pub data Kept (Holds : ℕ → List ℕ → List ℕ → Type 0) (w : ℕ) : List ℕ → List ℕ → Type 0 where
  built : {table memory memory' : List ℕ} {a : Answer ℕ} → Builds Holds w table memory a memory' → (n : ℕ) → a ≡ done n → Kept Holds w table memory'
  inserted : {table memory added memory' : List ℕ} {a : Answer ℕ} → Kept Holds w table memory
      → Inserts Holds w added memory (length (vrps w table)) (nodes_in w (vrps w table)) a memory' → (n : ℕ) → a ≡ done n → Kept Holds w (table ++ added) memory'
  refused_one : {table memory added memory' : List ℕ} {a : Answer ℕ} → Kept Holds w table memory
      → Inserts Holds w added memory (length (vrps w table)) (nodes_in w (vrps w table)) a memory' → (r : Refusal) → a ≡ refused r → Kept Holds w table memory'

-- The answer that the look-up's result stands for.
unfoldable pub told_looked_up : Result LookedUp Refusal → Answer Finding
told_looked_up (Ok found) = done (record { state = found.state; visited = found.visited })
told_looked_up (Err r) = refused r

-- What is told beside its number: the state, and how many nodes were visited, 0 on a refusal.
unfoldable pub state_told : Answer Finding → Answer ℕ
state_told (done f) = done f.state
state_told (refused r) = refused r

unfoldable pub visited_told : Answer Finding → ℕ
visited_told (done f) = f.visited
visited_told (refused r) = 0

-- The three numbers of a look-up's answer.
pub record LookUpNumbers (a : Answer Finding) (number besides visits : ℕ) : Type 0 where
  pub answered : number ≡ answer_number a
  pub beside : besides ≡ beside_number (state_told a)
  pub visited : visits ≡ visited_told a
