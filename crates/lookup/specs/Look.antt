-- The look-up of a route in any memory.
use Rattle.std.specs.Prelude.{ℕ, zero, suc, ◌+◌, ◌*◌, ◌/◌, ◌%◌, ◌^◌, Bool, cond, ◌&&◌, ◌||◌, List, eqb, leb, ltb, length}
use Rattle.std.proofs.Math.Option.{some}
use Rattle.rules.specs.Settings.{valid, invalid}
use Rattle.rules.specs.Origin.{same_as}
use Rattle.vrp_tree.specs.Memory.{node_at, record_at}

-- There is no such node, or no such record.
abbrev pub outside : List ℕ → ℕ → Bool
outside t k = eqb k 0 || ltb (length t / 3) k

-- Whether a record with this maximum and ASN, at a node on the route's prefix, matches a route of len bits with the origin asn.
abbrev pub allowed : ℕ → ℕ → ℕ → ℕ → Bool
allowed len asn most owner = leb len most && same_as owner (some asn)

-- A route of len bits with the origin asn.
module _ (t : List ℕ) (len asn : ℕ) where
  -- The records from `cur` on, at most `fuel`: valid if one matches, else invalid if there is one.
  unfoldable pub chain_of : ℕ → ℕ → ℕ → ℕ
  chain_of zero cur state = state
  chain_of (suc fuel) cur state =
      cond (outside t cur) state (cond (allowed len asn (record_at t cur 1) (record_at t cur 2)) valid (chain_of fuel (record_at t cur 0) invalid))

  -- A look-up so far is one number: seen % 4 is the state and seen / 4 the nodes visited. One node more, with its last record:
  unfoldable pub noted_of : ℕ → ℕ → ℕ
  noted_of head seen = seen / 4 * 4 + 4 + cond (eqb (seen % 4) valid) valid (chain_of (length t / 3) head (seen % 4))

  -- Down one bit of q at a time, until no node is left; the bits left fall.
  unfoldable pub look_of : ℕ → ℕ → ℕ → ℕ → ℕ
  look_of zero q node seen = cond (outside t node) seen (noted_of (node_at t node 2) seen)
  look_of (suc left) q node seen =
      cond (outside t node) seen (look_of left q (node_at t node (q / 2 ^ left % 2)) (noted_of (node_at t node 2) seen))
