-- The look-up in memory that a build filled from a table: the plain scan's state, and the nodes that lie on the route's prefix.
use mathlib.Core.Path.{◌≡◌, refl, ap, ◌∙◌}
use mathlib.Core.Bool.{Bool, ◌&&◌, ◌||◌}
use mathlib.Core.List.{List}
use mathlib.Core.Option.{some}
use Prim.Native.Nat.{ℕ, zero, suc, ◌-◌, ◌/◌, ◌^◌, ◌≤◌, ◌<◌}
use lib.Dec.{leb, eqb}
use Rattle.rules.specs.Origin.{vrps, agree, covers, matches, state_in}
use Rattle.vrp_tree.specs.Tree.{newest}
use Rattle.vrp_tree.specs.Memory.{Held}
use Rattle.lookup.specs.Look.{look_of}
use Rattle.rules.specs.Index.{counted, is_node, visited_in}
use Rattle.lookup.proofs.Finding.{packed}
use Rattle.lookup.proofs.Stating.{look_state, exists-newest}
use Rattle.vrp_tree.proofs.Visiting.{visited-met}

counted_same : (f g : ℕ → Bool) → ((m : ℕ) → f m ≡ g m) → (n : ℕ) → counted f n ≡ counted g n
unfolding counted
counted_same f g e zero = refl
counted_same f g e (suc n) = rw (e n, counted_same f g e n) refl

module _ (w : ℕ) (table t : List ℕ) (p len asn : ℕ) (fp : p < 2 ^ w) (hl : len ≤ w) where
  node_newest : (m : ℕ) → is_node w (newest w table) p m ≡ is_node w (vrps w table) p m
  unfolding is_node
  node_newest m = ap (λ (b : Bool). eqb m 0 || b) (exists-newest (λ v. leb m v.len && agree w m v.prefix p) (vrps w table))

  -- THE THEOREM of the look-up.
  pub look_scan : Held w (newest w table) t
      → look_of t len asn len (p / 2 ^ (w - len)) 1 1 ≡ packed (state_in w (vrps w table) p len (some asn)) (visited_in w (vrps w table) p len)
  unfolding state_in visited_in
  look_scan h =
      look_state w t p len asn fp hl h
      ∙ rw (
        exists-newest (λ v. matches w v p len (some asn)) (vrps w table),
        exists-newest (λ v. covers w v p len) (vrps w table),
        visited-met w p len fp hl h.linked,
        counted_same (is_node w (newest w table) p) (is_node w (vrps w table) p) node_newest (suc len),
      ) refl
