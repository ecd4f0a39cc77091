-- The look-up in any memory: its turns, and how much it visits.
use mathlib.Core.Path.{◌≡◌, refl, ◌∙◌}
use mathlib.Core.Bool.{Bool, true, false, cond, or-true}
use mathlib.Core.List.{List}
use mathlib.Core.Option.{some}
use Prim.Native.Nat.{ℕ, zero, suc, ◌+◌, ◌-◌, ◌*◌, ◌/◌, ◌%◌, ◌^◌, ◌≤◌, ◌<◌}
use native.Mathlib.Omega.{arith}
use borrow.Author.Tests.{le-leb, lt-leb, eq-eqb, ne_eqb, eqb-true, lt-ltb, le-ltb}
use lib.Dec.{eqb}
use lib.ListN.{length, get_or}
use Rattle.vrps.proofs.Records.{same_as-zero, same_as_route}
use Rattle.vrp_tree.specs.Memory.{node_at, record_at}
use Rattle.lookup.specs.Look.{outside, allowed, chain_of, noted_of, look_of}
use Rattle.vrp_tree.proofs.Numbers.{part-bit}

module _ (t : List ℕ) (k : ℕ) where
  pub out-zero : k ≡ 0 → outside t k ≡ true
  out-zero e = rw (eq-eqb _ _ e)

  pub out_far : length t / 3 < k → outside t k ≡ true
  out_far l = rw (lt-ltb _ _ l) (or-true (eqb k 0))

  pub out_in : (k ≡ 0 → ⊥) → k ≤ length t / 3 → outside t k ≡ false
  out_in h l = rw (ne_eqb k 0 h, le-ltb (length t / 3) k l)

-- Whether a record matches, in the code's order.
module _ (len asn most owner : ℕ) where
  pub allowed_longer : most < len → false ≡ allowed len asn most owner
  allowed_longer h = rw (lt-leb len most h) refl

  pub allowed-zero : len ≤ most → owner ≡ 0 → false ≡ allowed len asn most owner
  allowed-zero h e = same_as-zero owner (some asn) e ∙ rw (le-leb len most h) refl

  pub allowed_same : len ≤ most → (owner ≡ 0 → ⊥) → eqb owner asn ≡ allowed len asn most owner
  allowed_same h ne = same_as_route owner asn ne ∙ rw (le-leb len most h) refl

-- The turns of the chain.
module _ (t : List ℕ) (len asn cur state : ℕ) where
  pub chain-out : (fuel : ℕ) → outside t cur ≡ true → chain_of t len asn fuel cur state ≡ state
  unfolding chain_of
  chain-out zero e = refl
  chain-out (suc fuel) e = rw e

  pub chain-end : (fuel : ℕ) → fuel ≡ 0 → chain_of t len asn fuel cur state ≡ state
  unfolding chain_of
  chain-end zero e = refl
  chain-end (suc fuel) e = absurd (omega arith)

  module _ (h : outside t cur ≡ false) {most : ℕ} (m : most ≡ record_at t cur 1) where
    pub chain_hit : (fuel : ℕ) → 0 < fuel → allowed len asn most (record_at t cur 2) ≡ true → chain_of t len asn fuel cur state ≡ 0
    unfolding chain_of
    chain_hit zero k e = absurd (omega arith)
    chain_hit (suc fuel) k e = rw (h, ← m, e)

    pub chain-on : (fuel next : ℕ) → 0 < fuel → allowed len asn most (record_at t cur 2) ≡ false → next ≡ get_or t ((length t / 3 - cur) * 3) 0
        → chain_of t len asn fuel cur state ≡ chain_of t len asn (fuel - 1) next 2
    unfolding chain_of
    chain-on zero next k e g = absurd (omega arith)
    chain-on (suc fuel) next k e g =
        let f : suc fuel - 1 ≡ fuel = omega arith in
        let z : (length t / 3 - cur) * 3 + 0 ≡ (length t / 3 - cur) * 3 = omega arith in
        rw (f, h, ← m, e, z, g)

-- One node more.
module _ (t : List ℕ) (len asn seen : ℕ) where
  pub note_none : (head : ℕ) → head ≡ 0 → seen + 4 ≡ noted_of t len asn head seen
  unfolding noted_of
  note_none head e = rw (chain-out t len asn head (seen % 4) (length t / 3) (out-zero t head e)) (go (eqb (seen % 4) 0) refl)
    where
      go : (b : Bool) → eqb (seen % 4) 0 ≡ b → seen + 4 ≡ seen / 4 * 4 + 4 + cond b 0 (seen % 4)
      go true e = omega (arith, eqb-true (seen % 4) 0 e)
      go false e = omega arith

  pub note_valid : (head : ℕ) → seen % 4 ≡ 0 → seen + 4 ≡ noted_of t len asn head seen
  unfolding noted_of
  note_valid head e = rw (eq-eqb _ _ e) (omega arith)

  pub note_chain : (head met : ℕ) → (seen % 4 ≡ 0 → ⊥) → met ≡ chain_of t len asn (length t / 3) head (seen % 4)
      → seen + 4 - seen % 4 + met ≡ noted_of t len asn head seen
  unfolding noted_of
  note_chain head met ne e = rw (ne_eqb (seen % 4) 0 ne, ← e) (omega arith)

-- The turns of the look-up.
module _ (t : List ℕ) (len asn q : ℕ) where
  pub look_off : (left node seen : ℕ) → outside t node ≡ true → look_of t len asn left q node seen ≡ seen
  unfolding look_of
  look_off zero node seen h = rw h
  look_off (suc left) node seen h = rw h

  module _ (node seen : ℕ) (h : outside t node ≡ false) where
    pub look_end : (left : ℕ) → left ≡ 0 → look_of t len asn left q node seen ≡ noted_of t len asn (node_at t node 2) seen
    unfolding look_of
    look_end zero e = rw h
    look_end (suc left) e = absurd (omega arith)

    pub look_suc : (left : ℕ)
        → look_of t len asn (suc left) q node seen ≡ look_of t len asn left q (node_at t node (q / 2 ^ left % 2)) (noted_of t len asn (node_at t node 2) seen)
    unfolding look_of
    look_suc left = rw h

-- The bits of a part and of its value are the same.
pub look_part : (t : List ℕ) (len asn l q : ℕ) (left : ℕ) → left ≤ l → (node seen : ℕ) → look_of t len asn left (2 ^ l + q) node seen ≡ look_of t len asn left q node seen
unfolding look_of
look_part t len asn l q zero h node seen = refl
look_part t len asn l q (suc left) h node seen =
    rw (part-bit l q left (omega arith), look_part t len asn l q left (omega arith) (node_at t node (q / 2 ^ left % 2)) (noted_of t len asn (node_at t node 2) seen)) refl

-- It visits at most one node more than there are bits.
module _ (t : List ℕ) (len asn : ℕ) where
  chain-le : (fuel cur state : ℕ) → state ≤ 3 → chain_of t len asn fuel cur state ≤ 3
  unfolding chain_of
  chain-le zero cur state h = h
  chain-le (suc fuel) cur state h =
      go (outside t cur) (allowed len asn (record_at t cur 1) (record_at t cur 2)) (chain-le fuel (record_at t cur 0) 2 (omega arith))
    where
      go : (a b : Bool) → chain_of t len asn fuel (record_at t cur 0) 2 ≤ 3 → cond a state (cond b 0 (chain_of t len asn fuel (record_at t cur 0) 2)) ≤ 3
      go true b k = h
      go false true k = omega arith
      go false false k = k

  pub noted-count : (head seen : ℕ) → noted_of t len asn head seen / 4 ≡ seen / 4 + 1
  unfolding noted_of
  noted-count head seen = go (eqb (seen % 4) 0) (chain-le (length t / 3) head (seen % 4) (omega arith))
    where
      go : (a : Bool) → chain_of t len asn (length t / 3) head (seen % 4) ≤ 3
          → (seen / 4 * 4 + 4 + cond a 0 (chain_of t len asn (length t / 3) head (seen % 4))) / 4 ≡ seen / 4 + 1
      go true k = omega arith
      go false k = omega arith

  pub look_le : (left q node seen : ℕ) → look_of t len asn left q node seen / 4 ≤ seen / 4 + left + 1
  unfolding look_of
  look_le zero q node seen = go (outside t node)
    where
      go : (a : Bool) → cond a seen (noted_of t len asn (node_at t node 2) seen) / 4 ≤ seen / 4 + 0 + 1
      go true = omega arith
      go false = omega (arith, noted-count (node_at t node 2) seen)
  look_le (suc left) q node seen =
      go (outside t node) (look_le left q (node_at t node (q / 2 ^ left % 2)) (noted_of t len asn (node_at t node 2) seen))
    where
      go : (a : Bool)
          → look_of t len asn left q (node_at t node (q / 2 ^ left % 2)) (noted_of t len asn (node_at t node 2) seen) / 4 ≤ noted_of t len asn (node_at t node 2) seen / 4 + left + 1
          → cond a seen (look_of t len asn left q (node_at t node (q / 2 ^ left % 2)) (noted_of t len asn (node_at t node 2) seen)) / 4 ≤ seen / 4 + suc left + 1
      go true k = omega arith
      go false k = omega (arith, noted-count (node_at t node 2) seen)
