-- The way to the node of a part, bit by bit: as far as it is there, and what is made of it.
use mathlib.Core.Path.{◌≡◌, refl, sym, ap, ◌∙◌, subst}
use mathlib.Core.Logic.{⊎_elim}
use mathlib.Core.List.{List, ◌∷◌}
use Prim.Native.Nat.{ℕ, zero, suc, ◌+◌, ◌-◌, ◌*◌, ◌/◌, ◌%◌, ◌^◌, ◌≤◌, ◌<◌}
use native.Mathlib.Nat.{div-one, eq-or-lt_of_le}
use native.Mathlib.Omega.{arith}
use lib.ListN.{length, drop}
use lib.Pow.{shr-shr}
use lib.Seq.{drop-drop}
use Rattle.rules.specs.declared.Words.{Words}
use Rattle.rules.specs.Origin.{spelled, bit_at}
use Rattle.vrp_tree.specs.Tree.{leading_bits, spot, grown}
use Rattle.vrp_tree.specs.Memory.{node_at, Tree}
use Rattle.index.specs.Steps.{Reached, Reach, Grown, Extended}
use Rattle.vrp_tree.proofs.Numbers.{deeper, part-bit}
use Rattle.vrp_tree.proofs.Parts.{spot-le, spot-new, added_new, added-old}
use Rattle.index.proofs.Growing.{Closed, closed_more, below_new, tree-grown}

-- The bit that the code reads is the next of the part.
pub next_bit : (p : Words) (len i left : ℕ) → i + left ≡ len → 0 < left → len ≤ 128
    → bit_at 128 (spelled p) i ≡ (2 ^ len + leading_bits p len) / 2 ^ (left - 1) % 2
unfolding bit_at leading_bits
next_bit p len i left q h m =
    let e : 128 - suc i ≡ 128 - len + (left - 1) = omega arith in
    ap (λ (n : ℕ). spelled p / 2 ^ n % 2) e
    ∙ ap (λ (n : ℕ). n % 2) (sym (shr-shr (spelled p) (128 - len) (left - 1)))
    ∙ sym (part-bit len (spelled p / 2 ^ (128 - len)) (left - 1) (omega arith))

-- The same bit, as the last of the part with one bit more.
next-part : (x left : ℕ) → 0 < left → x / 2 ^ (left - 1) ≡ x / 2 ^ left * 2 + x / 2 ^ (left - 1) % 2
next-part x zero h = absurd (omega arith)
next-part x (suc left) h = let j : suc left - 1 ≡ left = omega arith in rw j (deeper x left)

-- ## Down, as far as there are nodes

pub record Going (t : List ℕ) (x len nodes node left : ℕ) : Type 0 where
  pub within : (0 < node) × (node ≤ nodes) × (left ≤ len)
  pub here : (xs ks : List ℕ) → Tree xs ks t → length ks ≡ nodes → x / 2 ^ len ≡ 1 → spot ks (x / 2 ^ left) ≡ node

pub going_start : (t : List ℕ) (x len nodes : ℕ) → 0 < nodes → Going t x len nodes 1 len
going_start t x len nodes h = record { within = (omega arith, omega arith, omega arith); here = λ xs ks tree c e. rw e tree.root }

module _ {t : List ℕ} {x len nodes node left : ℕ} (g : Going t x len nodes node left) where
  module _ (pos : 0 < left) {b next : ℕ} (e : b ≡ x / 2 ^ (left - 1) % 2) (f : next ≡ node_at t node b) where
    -- The child that the code reads.
    child_is : (xs ks : List ℕ) → Tree xs ks t → length ks ≡ nodes → x / 2 ^ len ≡ 1 → next ≡ spot ks (x / 2 ^ (left - 1))
    child_is xs ks tree c r =
        f ∙ tree.kids (x / 2 ^ left) (node - 1) b (omega arith) (omega (arith, g.here xs ks tree c r, g.within))
        ∙ ap (spot ks) (ap (λ (n : ℕ). x / 2 ^ left * 2 + n) e ∙ sym (next-part x left pos))

    pub going_none : next ≡ 0 → Reach t x len nodes node left
    going_none z = record {
      within = g.within;
      reached = λ xs ks tree c r. record { here = g.here xs ks tree c r; ends = λ h. sym (child_is xs ks tree c r) ∙ z };
    }

    -- In memory that holds no tree.
    pub going_off : nodes < next → Reach t x len nodes node left
    going_off h = record {
      within = g.within;
      reached = λ xs ks tree c r. absurd (omega (arith, child_is xs ks tree c r, spot-le ks (x / 2 ^ (left - 1))));
    }

    pub going_next : (next ≡ 0 → ⊥) → next ≤ nodes → Going t x len nodes next (left - 1)
    going_next ne h = record {
      within = (omega arith, h, omega (arith, g.within));
      here = λ xs ks tree c r. sym (child_is xs ks tree c r);
    }

  pub going_end : left ≡ 0 → Reach t x len nodes node 0
  going_end z = record {
    within = (g.within.0, g.within.1, omega arith);
    reached = λ xs ks tree c r. record {
      here = ap (λ (n : ℕ). spot ks (x / 2 ^ n)) (sym z) ∙ g.here xs ks tree c r;
      ends = λ h. absurd (omega arith);
    };
  }

-- ## How many parts are new

module _ (ks : List ℕ) (up : Closed ks) (x : ℕ) where
  -- With a part its leading parts are there,
  above : (len left : ℕ) → left ≤ len → 0 < x / 2 ^ len → 0 < spot ks (x / 2 ^ left) → 0 < spot ks (x / 2 ^ len)
  above zero left h p s = let z : left ≡ 0 = omega arith in rw z at s
  above (suc len) left h p s = ⊎_elim
      (λ (e : left ≡ suc len). rw e at s)
      (λ (l : left < suc len).
      let i = above len left (omega arith) (omega (arith, deeper x len)) s in
      up (x / 2 ^ suc len) (x / 2 ^ len % 2) (omega arith) p (rw (← deeper x len) i))
      (eq-or-lt_of_le h)

  -- and only the deeper ones can be new.
  pub grown-there : (len left : ℕ) → left ≤ len → 0 < x / 2 ^ len → 0 < spot ks (x / 2 ^ left) → grown len x ks ≡ grown left x ks
  unfolding grown
  grown-there zero left h p s = let z : left ≡ 0 = omega arith in rw z refl
  grown-there (suc len) left h p s = ⊎_elim
      (λ (e : left ≡ suc len). rw e refl)
      (λ (l : left < suc len).
      let q : 0 < x / 2 ^ len = omega (arith, deeper x len) in
      rw (added-old ks (x / 2 ^ len) (above len left (omega arith) q s)) (grown-there len left (omega arith) q s))
      (eq-or-lt_of_le h)

-- Where the part with one bit more is not there, all deeper ones are new.
pub grown-new : (left : ℕ) (ks : List ℕ) → Closed ks → (x : ℕ) → 0 < x / 2 ^ left → 0 < spot ks (x / 2 ^ left) → (0 < left → spot ks (x / 2 ^ (left - 1)) ≡ 0)
    → length (grown left x ks) ≡ length ks + left
unfolding grown
grown-new zero ks up x p s ends = omega arith
grown-new (suc left) ks up x p s ends =
    let j : suc left - 1 ≡ left = omega arith in
    let new : spot ks (x / 2 ^ left) ≡ 0 = rw j at (ends (omega arith)) in
    let q : 0 < x / 2 ^ left = omega (arith, deeper x left) in
    let up' : Closed ((x / 2 ^ left) ∷ ks) = rw (← deeper x left) at (closed_more ks up (x / 2 ^ suc left) (x / 2 ^ left % 2) s (omega arith)) in
    rw (added_new ks (x / 2 ^ left) new)
    (omega (
      arith,
      grown-new left ((x / 2 ^ left) ∷ ks) up' x q (rw (spot-new ks (x / 2 ^ left)) (omega arith))
          (λ h. rw (next-part x left h) (below_new ks up (x / 2 ^ left) (x / 2 ^ (left - 1) % 2) q (omega arith) new)),
    ))

-- ## The nodes that are made

-- `left` bits are to go, the node for those gone is there and none below it, and the parts to come give the parts that are wanted.
pub record Way (xs : List ℕ) (x : ℕ) (want t : List ℕ) (left node nodes : ℕ) : Type 0 where
  pub ks : List ℕ
  pub tree : Tree xs ks t
  pub rest : grown left x ks ≡ want
  pub reached : Reached ks x left node
  pub part : 0 < x / 2 ^ left
  pub count : length ks ≡ nodes

module _ {xs : List ℕ} {x : ℕ} {want t : List ℕ} {node nodes : ℕ} where
  way-grown : (left : ℕ) → Way xs x want t (suc left) node nodes → 0 < node → (b : ℕ) → b ≡ x / 2 ^ left % 2 → nodes * 3 + 3 ≤ length t
      → {t' : List ℕ} → Grown t nodes (node - 1) b t' → Way xs x want t' left (nodes + 1) (nodes + 1)
  unfolding grown
  way-grown left w pos b e fits {t'} g =
      let j : suc left - 1 ≡ left = omega arith in
      let new : spot w.ks (x / 2 ^ left) ≡ 0 = rw j at (w.reached.ends (omega arith)) in
      let next : x / 2 ^ suc left * 2 + b ≡ x / 2 ^ left = rw e (sym (deeper x left)) in
      let at : spot w.ks (x / 2 ^ suc left) ≡ (node - 1) + 1 = omega (arith, w.reached.here) in
      let g' : Grown t (length w.ks) (node - 1) b t' = rw w.count g in
      let some : 0 < x / 2 ^ left = omega (arith, w.part, deeper x left) in
      record {
        ks = (x / 2 ^ left) ∷ w.ks;
        tree = rw next at (tree-grown w.tree (x / 2 ^ suc left) (node - 1) b at w.part (omega arith) (rw next new) (rw w.count fits) g');
        rest = rw (added_new w.ks (x / 2 ^ left) new) at w.rest;
        reached = record {
          here = spot-new w.ks (x / 2 ^ left) ∙ rw w.count;
          ends = λ h. rw (next-part x left h) (below_new w.ks w.tree.up (x / 2 ^ left) (x / 2 ^ (left - 1) % 2) some (omega arith) new);
        };
        part = some;
        count = omega (arith, w.count);
      }

  way_end : {left : ℕ} → left ≡ 0 → Way xs x want t left node nodes → Tree xs want t × (spot want x ≡ node) × (length want ≡ nodes)
  unfolding grown
  way_end {left} z w =
      let p : w.ks ≡ want = rw z at w.rest in
      let one : x / 2 ^ left ≡ x = rw z (div-one _) in
      (subst (λ (l : List ℕ). Tree xs l t) p w.tree, rw (← p) (rw one at w.reached.here), rw (← p) w.count)

-- `made` of the `left` nodes are made.
pub record Extending (t : List ℕ) (x left node nodes : ℕ) (t' : List ℕ) (last made : ℕ) : Type 0 where
  pub size : length t' ≡ length t
  pub after : drop ((nodes + left) * 3) t' ≡ drop ((nodes + left) * 3) t
  pub within : (0 < last) × (last ≤ nodes + made) × (made ≤ left)
  pub way : (xs ks : List ℕ) → Tree xs ks t → length ks ≡ nodes → 0 < x / 2 ^ left → Reached ks x left node
      → Way xs x (grown left x ks) t' (left - made) last (nodes + made)

pub extending_start : (t : List ℕ) (x left node nodes : ℕ) → 0 < node → node ≤ nodes → Extending t x left node nodes t node 0
extending_start t x left node nodes p h = record {
  size = refl;
  after = refl;
  within = (p, omega arith, omega arith);
  way = λ xs ks tree c q r.
      let z : left - 0 ≡ left = omega arith in
      rw z (record { ks = ks; tree = tree; rest = refl; reached = r; part = q; count = omega arith });
}

-- What is the same from one place on is the same from a later one on.
later : (n m : ℕ) (t t' : List ℕ) → n ≤ m → drop n t' ≡ drop n t → drop m t' ≡ drop m t
later n m t t' h e =
    let i : n + (m - n) ≡ m = omega arith in
    ap (λ (k : ℕ). drop k t') (sym i) ∙ sym (drop-drop (m - n) n t') ∙ ap (drop (m - n)) e ∙ drop-drop (m - n) n t ∙ ap (λ (k : ℕ). drop k t) i

module _ {t : List ℕ} {x left node nodes : ℕ} {t' : List ℕ} {last made : ℕ} (g : Extending t x left node nodes t' last made) where
  pub extending_next : made < left → {b : ℕ} → b ≡ x / 2 ^ (left - made - 1) % 2 → (nodes + left) * 3 ≤ length t
      → {t'' : List ℕ} → Grown t' (nodes + made) (last - 1) b t''
      → Extending t x left node nodes t'' (nodes + made + 1) (made + 1)
  extending_next h {b} e room {t''} n = record {
    size = n.size ∙ g.size;
    after = later ((nodes + made + 1) * 3) ((nodes + left) * 3) t' t'' (omega arith) n.after ∙ g.after;
    within = (omega arith, omega arith, omega arith);
    way = λ xs ks tree c q r.
        let i : left - made ≡ suc (left - (made + 1)) = omega arith in
        let j : left - made - 1 ≡ left - (made + 1) = omega arith in
        let k : nodes + (made + 1) ≡ nodes + made + 1 = omega arith in
        rw k (way-grown (left - (made + 1)) (rw i at (g.way xs ks tree c q r)) g.within.0 b (rw j at e) (omega (arith, g.size)) n);
  }

  pub extending_end : left ≤ made → Extended t x left node nodes t' last
  extending_end h =
      let i : nodes + made ≡ nodes + left = omega (arith, g.within) in
      record {
        size = g.size;
        after = g.after;
        within = (g.within.0, omega (arith, g.within));
        made = λ xs ks tree c q r.
            let w = way_end (omega arith) (g.way xs ks tree c q r) in
            (w.0, w.1, w.2 ∙ i);
      }
