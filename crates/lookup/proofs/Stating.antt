-- The look-up in memory that a build filled: its state is the plain scan's.
use mathlib.Core.Path.{◌≡◌, refl, sym, ap, ◌∙◌}
use mathlib.Core.Bool.{Bool, false, ◌&&◌, ◌||◌, and_assoc, or-false, or_assoc, or_comm}
use mathlib.Core.List.{List, [], ◌∷◌}
use mathlib.Core.Option.{some}
use Prim.Native.Nat.{ℕ, ◌-◌, ◌/◌, ◌^◌, ◌≤◌, ◌<◌}
use native.Mathlib.Omega.{arith}
use Rattle.rules.specs.Bytes.{exists}
use Rattle.rules.specs.Origin.{Vrp, covers, matches, state_in}
use Rattle.vrp_tree.specs.Tree.{part_of, own, parts_of, turned, on_of, met_of}
use Rattle.vrp_tree.specs.Memory.{Linked, Held}
use Rattle.lookup.specs.Look.{look_of}
use Rattle.vrp_tree.specs.Memory as memory
use Rattle.vrp_tree.proofs.Numbers.{part-root}
use Rattle.vrp_tree.proofs.Covering.{on-covers}
use Rattle.lookup.proofs.Descents.{look_part}
use Rattle.lookup.proofs.Finding.{test, packed, look_tree}

module _ (w : ℕ) (t : List ℕ) (p len asn : ℕ) (fp : p < 2 ^ w) (hl : len ≤ w) where
  -- The records on the route's part are those that cover it.
  on_list : {vs : List Vrp} → Linked w t vs
      → (exists (λ v. on_of (own w v) (part_of w p len) len && test len asn v) vs ≡ exists (λ v. matches w v p len (some asn)) vs)
      × (exists (λ v. on_of (own w v) (part_of w p len) len) vs ≡ exists (λ v. covers w v p len) vs)
  unfolding exists matches test
  on_list memory.none = (refl, refl)
  on_list (memory.more {v} {vs} f e₀ e₁ e₂ ls) =
      let ih = on_list ls in
      (rw (on-covers w f p len fp hl, ih.0, and_assoc (covers w v p len)) refl, rw (on-covers w f p len fp hl, ih.1) refl)

  pub look_state : {vs : List Vrp} → Held w vs t
      → look_of t len asn len (p / 2 ^ (w - len)) 1 1 ≡ packed (state_in w vs p len (some asn)) (met_of (parts_of w vs) (part_of w p len) len)
  unfolding state_in
  look_state {vs} h =
      let root = part-root w p len hl fp in
      let on = on_list h.linked in
      let law = look_tree w t len asn h.tree h.linked (omega (arith, h.room)) (part_of w p len) len (rw root (omega arith)) false false 0 in
      sym (look_part t len asn len (p / 2 ^ (w - len)) len (omega arith) 1 1)
      ∙ rw (root, h.tree.root, on.0, on.1) at law ∙ ap (packed _) (omega arith)

-- ## The newest first or last: the state is the same

exists-turned : {A : Type 0} (f : A → Bool) (l vs : List A) → exists f (turned l vs) ≡ exists f l || exists f vs
unfolding exists turned
exists-turned f [] vs = refl
exists-turned f (v ∷ l) vs =
    exists-turned f l (v ∷ vs) ∙ sym (or_assoc (exists f l) (f v) (exists f vs)) ∙ ap (λ (b : Bool). b || exists f vs) (or_comm (exists f l) (f v))

pub exists-newest : {A : Type 0} (f : A → Bool) (l : List A) → exists f (turned l []) ≡ exists f l
unfolding exists
exists-newest f l = exists-turned f l [] ∙ or-false (exists f l)
