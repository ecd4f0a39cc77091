-- The look-up in memory that holds the tree of some records, newest first: its state is that of the records that lie on the route's part,
-- and it visits the parts that lie there.
use mathlib.Core.Path.{◌≡◌, refl, sym, ap, ◌∙◌}
use mathlib.Core.Bool.{Bool, true, false, cond, ◌&&◌, ◌||◌, or-true, or-false, or_assoc}
use mathlib.Core.List.{List, [], ◌∷◌, map}
use Prim.Native.Nat.{ℕ, zero, suc, ◌+◌, ◌-◌, ◌*◌, ◌/◌, ◌%◌, ◌^◌, ◌≤◌, ◌<◌}
use native.Mathlib.Numerals.{add-one}
use native.Mathlib.Omega.{arith}
use borrow.Author.Tests.{eq-eqb, ne_eqb, eqb-true}
use lib.Dec.{eqb}
use lib.ListN.{length, length-map}
use Rattle.rules.specs.Bytes.{exists}
use Rattle.rules.specs.Origin.{Vrp}
use Rattle.vrp_tree.specs.Tree.{own, spot, on_of, met_of}
use Rattle.vrp_tree.specs.Memory.{node_at, record_at, Tree, Linked, none, more}
use Rattle.lookup.specs.Look.{outside, allowed, chain_of, noted_of, look_of}
use Rattle.vrp_tree.proofs.Numbers.{deeper}
use Rattle.vrp_tree.proofs.Parts.{spot-le, spot-more, spot-new}
use Rattle.lookup.proofs.Descents.{out_in, chain-out, look_off, look_end, look_suc}

-- ## Some element of a list

module _ {A : Type 0} where
  exists_or : (f g : A → Bool) (l : List A) → exists (λ v. f v || g v) l ≡ (exists f l || exists g l)
  unfolding exists
  exists_or f g [] = refl
  exists_or f g (v ∷ l) = rw (exists_or f g l) (mix (f v) (g v) (exists f l) (exists g l))
    where
      mix : (a b c d : Bool) → ((a || b) || (c || d)) ≡ ((a || c) || (b || d))
      mix true b c d = refl
      mix false true true d = refl
      mix false true false d = refl
      mix false false c d = refl

  exists_or_and : (f g h : A → Bool) (l : List A) → exists (λ v. (f v || g v) && h v) l ≡ (exists (λ v. f v && h v) l || exists (λ v. g v && h v) l)
  unfolding exists
  exists_or_and f g h [] = refl
  exists_or_and f g h (v ∷ l) = rw (exists_or_and f g h l) (mix (f v) (g v) (h v) (exists (λ v. f v && h v) l) (exists (λ v. g v && h v) l))
    where
      mix : (a b e c d : Bool) → (((a || b) && e) || (c || d)) ≡ (((a && e) || c) || ((b && e) || d))
      mix true b true c d = refl
      mix true true false true d = refl
      mix true true false false d = refl
      mix true false false c d = refl
      mix false true true true d = refl
      mix false true true false d = refl
      mix false true false c d = refl
      mix false false e c d = refl

-- The state of some records: 0 if some match, else 2 if some cover, else 1.
abbrev pub state_by : Bool → Bool → ℕ
state_by m c = cond m 0 (cond c 2 1)

-- Whether a record that lies on the route's part matches the route.
unfoldable pub test : ℕ → ℕ → Vrp → Bool
test len asn v = allowed len asn v.most v.asn

-- The look-up so far, as one number.
abbrev pub packed : ℕ → ℕ → ℕ
packed state visited = visited * 4 + state

-- What a look-up with so much seen finds, with at most `left` bits of the part q to go, by the records vs and the parts ks.
abbrev pub Found : ℕ → ℕ → ℕ → List Vrp → List ℕ → ℕ → ℕ → Bool → Bool → ℕ → ℕ
Found w len asn vs ks q left m c vis =
    packed (state_by (m || exists (λ v. on_of (own w v) q left && test len asn v) vs) (c || exists (λ v. on_of (own w v) q left) vs)) (vis + met_of ks q left)

module _ (w : ℕ) (t : List ℕ) (len asn : ℕ) where
  -- ## The records at a node

  module _ (x : ℕ) where
    abbrev Chain : List Vrp → ℕ → Bool → Type 0
    Chain vs fuel c = chain_of t len asn fuel (spot (map (own w) vs) x) (state_by false c)
        ≡ state_by (exists (λ v. eqb (own w v) x && test len asn v) vs) (c || exists (λ v. eqb (own w v) x) vs)

    -- The newest record is at the node, or not.
    module _ (v : Vrp) (vs : List Vrp) (e₀ : record_at t (length vs + 1) 0 ≡ spot (map (own w) vs) (own w v))
        (e₁ : record_at t (length vs + 1) 1 ≡ v.most) (e₂ : record_at t (length vs + 1) 2 ≡ v.asn) (h : length vs + 1 ≤ length t / 3) where
      chain_next : (b : Bool) → eqb (own w v) x ≡ b → (d : Bool) → test len asn v ≡ d → (fuel : ℕ) (c : Bool) → Chain vs fuel true → Chain vs (suc fuel) c
          → chain_of t len asn (suc fuel) (cond b (suc (length (map (own w) vs))) (spot (map (own w) vs) x)) (state_by false c)
          ≡ state_by ((b && d) || exists (λ v. eqb (own w v) x && test len asn v) vs) (c || (b || exists (λ v. eqb (own w v) x) vs))
      unfolding chain_of test
      chain_next true e true g fuel c here later =
          rw (length-map vs (own w), ← add-one (length vs), out_in t (length vs + 1) (λ (z : length vs + 1 ≡ 0). omega arith) h, e₁, e₂, g) refl
      chain_next true e false g fuel c here later =
          rw (length-map vs (own w), ← add-one (length vs), out_in t (length vs + 1) (λ (z : length vs + 1 ≡ 0). omega arith) h, e₁, e₂, g, e₀, eqb-true (own w v) x e, or-true c) here
      chain_next false e d g fuel c here later = later

    pub chain-exists : {vs : List Vrp} → Linked w t vs → length vs ≤ length t / 3 → (fuel : ℕ) → length vs ≤ fuel → (c : Bool) → Chain vs fuel c
    unfolding spot exists
    chain-exists none h fuel k c = rw (or-false c) (chain-out t len asn 0 (cond {A = ℕ} c 2 1) fuel refl)
    chain-exists (more {v} {vs} f e₀ e₁ e₂ ls) h zero k c = absurd (omega arith)
    chain-exists (more {v} {vs} f e₀ e₁ e₂ ls) h (suc fuel) k c =
        chain_next v vs e₀ e₁ e₂ (omega arith) (eqb (own w v) x) refl (test len asn v) refl fuel c
        (chain-exists ls (omega arith) fuel (omega arith) true) (chain-exists ls (omega arith) (suc fuel) (omega arith) c)

  -- ## The way down

  -- Nothing of the records, where a test of their parts holds of none.
  none-on : (f : ℕ → Bool) (vs : List Vrp) → ((x : ℕ) → 0 < spot (map (own w) vs) x → f x ≡ false)
      → (exists (λ v. f (own w v) && test len asn v) vs ≡ false) × (exists (λ v. f (own w v)) vs ≡ false)
  unfolding exists
  none-on f [] h = (refl, refl)
  none-on f (v ∷ vs) h =
      let z = h (own w v) (rw (spot-new (map (own w) vs) (own w v)) (omega arith)) in
      let r = none-on f vs (λ x k. h x (spot-more (map (own w) vs) (own w v) x k)) in
      (rw (z, r.0) refl, rw (z, r.1) refl)

  module _ {vs : List Vrp} {ks : List ℕ} (tree : Tree (map (own w) vs) ks t) (linked : Linked w t vs) (room : length vs ≤ length t / 3) (q : ℕ) where
    -- Below a part that is not there, there is none.
    gone : (left : ℕ) → 0 < q / 2 ^ suc left → spot ks (q / 2 ^ suc left) ≡ 0 → spot ks (q / 2 ^ left) ≡ 0
    gone left h e = go (spot ks (q / 2 ^ left)) refl
      where
        go : (m : ℕ) → spot ks (q / 2 ^ left) ≡ m → m ≡ 0
        go zero f = refl
        go (suc m) f =
            let g : 0 < spot ks (q / 2 ^ suc left) =
            tree.up (q / 2 ^ suc left) (q / 2 ^ left % 2) (omega arith) h (rw (← deeper q left, f) (omega arith)) in
            absurd (omega arith)

    some_left : (left : ℕ) → 0 < q / 2 ^ suc left → 0 < q / 2 ^ left
    some_left left h = omega (arith, deeper q left)

    met-none : (left : ℕ) → 0 < q / 2 ^ left → spot ks (q / 2 ^ left) ≡ 0 → met_of ks q left ≡ 0
    unfolding met_of
    met-none zero h e = rw (eq-eqb _ _ e)
    met-none (suc left) h e = rw (eq-eqb _ _ e) (omega (arith, met-none left (some_left left h) (gone left h e)))

    on_none : (left x : ℕ) → 0 < q / 2 ^ left → spot ks (q / 2 ^ left) ≡ 0 → 0 < spot ks x → on_of x q left ≡ false
    unfolding on_of
    on_none zero x h e k = ne_eqb x (q / 2 ^ 0) (λ (f : x ≡ q / 2 ^ 0). let g = ap (spot ks) f in omega arith)
    on_none (suc left) x h e k =
        rw (ne_eqb x (q / 2 ^ suc left) (λ f. let g = ap (spot ks) f in omega arith), on_none left x (some_left left h) (gone left h e) k)

    -- At a part that is there.
    unpack_state : (s vis : ℕ) → s ≤ 3 → packed s vis % 4 ≡ s
    unpack_state s vis h = omega arith

    unpack_count : (s vis : ℕ) → s ≤ 3 → packed s vis / 4 ≡ vis
    unpack_count s vis h = omega arith

    noted : (x i vis : ℕ) (m c : Bool) → spot ks x ≡ i + 1
        → noted_of t len asn (node_at t (i + 1) 2) (packed (state_by m c) vis)
        ≡ packed (state_by (m || exists (λ v. eqb (own w v) x && test len asn v) vs) (c || exists (λ v. eqb (own w v) x) vs)) (vis + 1)
    unfolding noted_of
    noted x i vis true c e = rw (unpack_state 0 vis (omega arith), unpack_count 0 vis (omega arith)) (omega arith)
    noted x i vis false c e = go c
      where
        head : node_at t (i + 1) 2 ≡ spot (map (own w) vs) x
        head = let s : i + 1 - 1 ≡ i = omega arith in rw s (tree.heads x i e)

        go : (c : Bool) → packed (state_by false c) vis / 4 * 4 + 4
            + cond (eqb (packed (state_by false c) vis % 4) 0) 0 (chain_of t len asn (length t / 3) (node_at t (i + 1) 2) (packed (state_by false c) vis % 4))
            ≡ packed (state_by (exists (λ v. eqb (own w v) x && test len asn v) vs) (c || exists (λ v. eqb (own w v) x) vs)) (vis + 1)
        go true = rw (unpack_state 2 vis (omega arith), unpack_count 2 vis (omega arith), head, chain-exists x linked room (length t / 3) room true) (omega arith)
        go false = rw (unpack_state 1 vis (omega arith), unpack_count 1 vis (omega arith), head, chain-exists x linked room (length t / 3) room false) (omega arith)

    absent : (left : ℕ) → 0 < q / 2 ^ left → spot ks (q / 2 ^ left) ≡ 0 → (m c : Bool) (vis : ℕ) → packed (state_by m c) vis ≡ Found w len asn vs ks q left m c vis
    absent left h e m c vis =
        let z = none-on (λ x. on_of x q left) vs (λ x k. on_none left x h e (tree.held x k)) in
        let a : vis + 0 ≡ vis = omega arith in
        rw (z.0, z.1, met-none left h e, or-false m, or-false c, a) refl

    out_some : (x i : ℕ) → spot ks x ≡ i + 1 → outside t (i + 1) ≡ false
    out_some x i e = out_in t (i + 1) (λ (f : i + 1 ≡ 0). omega arith) (omega (arith, spot-le ks x, tree.room))

    met-here : (x i : ℕ) → spot ks x ≡ i + 1 → cond {A = ℕ} (eqb (spot ks x) 0) 0 1 ≡ 1
    met-here x i e = rw (ne_eqb (spot ks x) 0 (λ (f : spot ks x ≡ 0). omega arith))

    -- The look-up from a part of the route on.
    pub look_tree : (left : ℕ) → 0 < q / 2 ^ left → (m c : Bool) (vis : ℕ)
        → look_of t len asn left q (spot ks (q / 2 ^ left)) (packed (state_by m c) vis) ≡ Found w len asn vs ks q left m c vis
    unfolding on_of met_of
    look_tree zero h m c vis = go (spot ks (q / 2 ^ 0)) refl
      where
        go : (s : ℕ) → spot ks (q / 2 ^ 0) ≡ s → look_of t len asn 0 q s (packed (state_by m c) vis) ≡ Found w len asn vs ks q 0 m c vis
        go zero e = look_off t len asn q 0 0 _ refl ∙ absent 0 h e m c vis
        go (suc i) e =
            let f : spot ks (q / 2 ^ 0) ≡ i + 1 = e ∙ sym (add-one i) in
            rw (← add-one i) (look_end t len asn q (i + 1) _ (out_some _ i f) 0 refl ∙ noted _ i vis m c f ∙ rw (met-here _ i f) refl)
    look_tree (suc left) h m c vis = go (spot ks (q / 2 ^ suc left)) refl (look_tree left (some_left left h))
      where
        go : (s : ℕ) → spot ks (q / 2 ^ suc left) ≡ s
            → ((m c : Bool) (vis : ℕ) → look_of t len asn left q (spot ks (q / 2 ^ left)) (packed (state_by m c) vis) ≡ Found w len asn vs ks q left m c vis)
            → look_of t len asn (suc left) q s (packed (state_by m c) vis) ≡ Found w len asn vs ks q (suc left) m c vis
        go zero e ih = look_off t len asn q (suc left) 0 _ refl ∙ absent (suc left) h e m c vis
        go (suc i) e ih =
            let f : spot ks (q / 2 ^ suc left) ≡ i + 1 = e ∙ sym (add-one i) in
            let s : i + 1 - 1 ≡ i = omega arith in
            let child : node_at t (i + 1) (q / 2 ^ left % 2) ≡ spot ks (q / 2 ^ left) =
            rw (s, tree.kids (q / 2 ^ suc left) i (q / 2 ^ left % 2) (omega arith) f, ← deeper q left) refl in
            rw (← add-one i)
            (look_suc t len asn q (i + 1) _ (out_some _ i f) left
            ∙ rw (noted _ i vis m c f, child)
            (ih (m || exists (λ v. eqb (own w v) (q / 2 ^ suc left) && test len asn v) vs) (c || exists (λ v. eqb (own w v) (q / 2 ^ suc left)) vs) (vis + 1)
            ∙ rw (
              exists_or_and (λ v. eqb (own w v) (q / 2 ^ suc left)) (λ v. on_of (own w v) q left) (test len asn) vs,
              exists_or (λ v. eqb (own w v) (q / 2 ^ suc left)) (λ v. on_of (own w v) q left) vs,
              or_assoc,
              or_assoc c,
              met-here _ i f,
            )
            (ap (packed _) (omega arith))))
