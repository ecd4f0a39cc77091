-- The nodes of a table's tree are as many as its distinct leading parts.
use mathlib.Core.Path.{◌≡◌, refl, ap, ◌∙◌}
use mathlib.Core.Bool.{Bool, true, false, cond, not}
use mathlib.Core.List.{List, [], ◌∷◌}
use Prim.Native.Nat.{ℕ, zero, suc, ◌+◌, ◌-◌, ◌/◌, ◌^◌, ◌≤◌}
use native.Mathlib.Nat.{div-one}
use native.Mathlib.Omega.{arith}
use borrow.Author.Tests.{lt-leb}
use lib.Dec.{eqb}
use lib.ListN.{length}
use lib.Pow.{shr-shr}
use Rattle.rules.specs.Bytes.{exists}
use Rattle.rules.specs.Origin.{Vrp, vrps}
use Rattle.rules.specs.Index.{counted, is_node, new_nodes, nodes_after, nodes_in}
use Rattle.vrp_tree.specs.Tree.{part_of, spot, added, grown, parts_of, turned, newest}
use Rattle.vrp_tree.specs.Memory.{Fits}
use Rattle.vrp_tree.proofs.Numbers.{part_up}
use Rattle.vrp_tree.proofs.Visiting.{some, Fit, also, in_parts}

-- The longest of the parts that are added is added last.
grown_last : (m x : ℕ) (ks : List ℕ) → grown (suc m) x ks ≡ added (grown m (x / 2 ^ 1) ks) x
unfolding grown
grown_last zero x ks = ap (added ks) (div-one x)
grown_last (suc m) x ks =
    let e : suc m ≡ 1 + m = omega arith in
    grown_last m x (added ks (x / 2 ^ suc m)) ∙ rw (shr-shr x 1 m, e) refl

added-length : (ks : List ℕ) (x : ℕ) → length (added ks x) ≡ cond (not (some (spot ks x))) 1 0 + length ks
unfolding added
added-length ks x = go (eqb (spot ks x) 0)
  where
    go : (b : Bool) → length (cond b (x ∷ ks) ks) ≡ cond (not (not b)) 1 0 + length ks
    go true = omega arith
    go false = omega arith

-- ## The parts that one record adds

-- A record by the first m bits of its prefix.
shortened : Vrp → ℕ → Vrp
shortened v m = record { prefix = v.prefix; len = m; most = v.most; asn = v.asn }

module _ (w : ℕ) {v : Vrp} {vs : List Vrp} (fits : Fits w v) (fit : Fit w vs) where
  -- One bit more is not among the parts of fewer bits.
  node_longer : (m : ℕ) → is_node w (shortened v m ∷ vs) v.prefix (suc m) ≡ is_node w vs v.prefix (suc m)
  unfolding is_node exists shortened
  node_longer m = rw (lt-leb (suc m) m (omega arith)) refl

  parts_upto : (m : ℕ) → m ≤ w → length (parts_of w (shortened v m ∷ vs)) ≡ counted (λ k. not (is_node w vs v.prefix k)) (suc m) + length (parts_of w vs)
  unfolding parts_of counted shortened grown is_node
  parts_upto zero h = omega arith
  parts_upto (suc m) h =
      let ks = parts_of w (shortened v m ∷ vs) in
      let part = part_of w v.prefix (suc m) in
      let e : suc m - 1 ≡ m = omega arith in
      let is : parts_of w (shortened v (suc m) ∷ vs) ≡ added ks part =
      grown_last m part (parts_of w vs) ∙ rw (part_up w v.prefix (suc m) 1 (omega arith) h, e) refl in
      let i = in_parts w v.prefix (suc m) fits.within h (also {v = shortened v m} (record { within = fits.within; long = omega arith }) fit) ∙ node_longer m in
      ap length is ∙ added-length ks part ∙ rw (i, parts_upto m (omega arith)) (omega arith)

  parts_more : length (parts_of w (v ∷ vs)) ≡ new_nodes w vs v + length (parts_of w vs)
  unfolding new_nodes shortened
  parts_more = parts_upto v.len fits.long

-- ## The parts of a table

older_fit : (w : ℕ) (l vs : List Vrp) → Fit w (turned l vs) → Fit w vs
unfolding turned
older_fit w [] vs f = f
older_fit w (v ∷ l) vs f = go (older_fit w l (v ∷ vs) f)
  where
    go : Fit w (v ∷ vs) → Fit w vs
    go (also e g) = g

parts-after : (w : ℕ) (l vs : List Vrp) → Fit w (turned l vs) → length (parts_of w (turned l vs)) ≡ nodes_after w vs l + length (parts_of w vs)
unfolding nodes_after turned
parts-after w [] vs f = omega arith
parts-after w (v ∷ l) vs f = parts-after w l (v ∷ vs) f ∙ go (older_fit w l (v ∷ vs) f)
  where
    go : Fit w (v ∷ vs) → nodes_after w (v ∷ vs) l + length (parts_of w (v ∷ vs)) ≡ new_nodes w vs v + nodes_after w (v ∷ vs) l + length (parts_of w vs)
    go (also e g) = rw (parts_more w e g) (omega arith)

pub table_nodes : (w : ℕ) (table : List ℕ) → Fit w (newest w table) → length (parts_of w (newest w table)) ≡ nodes_in w (vrps w table)
unfolding nodes_in parts_of
table_nodes w table f = parts-after w (vrps w table) [] f ∙ omega arith
