-- One node more and one record more in a tree.
use mathlib.Core.Path.{◌≡◌, sym, ap, ◌∙◌}
use mathlib.Core.Logic.{⊎_elim}
use mathlib.Core.List.{List, ◌∷◌}
use Prim.Native.Nat.{ℕ, ◌+◌, ◌*◌, ◌/◌, ◌≤◌, ◌<◌}
use native.Mathlib.Nat.{eq-zero-or-pos}
use native.Mathlib.Omega.{arith}
use lib.ListN.{length, get_or, set, length-set}
use lib.Seq.{get_or-set_same, get_or-set_other, drop-set-lt}
use Rattle.vrp_tree.specs.Tree.{spot}
use Rattle.vrp_tree.specs.Memory.{Tree}
use Rattle.index.specs.Steps.{Grown}
use Rattle.vrp_tree.proofs.Numbers.{same}
use Rattle.vrp_tree.proofs.Parts.{spot-le, spot-one, spot-new, spot-old, spot-more}

none-at : (n : ℕ) → (0 < n → ⊥) → n ≡ 0
none-at n h = ⊎_elim (λ (z : n ≡ 0). z) (λ (p : 0 < n). absurd (h p)) (eq-zero-or-pos n)

-- Each part that is there has all its leading parts, as `Tree` says.
abbrev pub Closed : List ℕ → Type 0
Closed ks = (x b : ℕ) → b < 2 → 0 < x → 0 < spot ks (x * 2 + b) → 0 < spot ks x

module _ (ks : List ℕ) (up : Closed ks) where
  pub closed_more : (x b : ℕ) → 0 < spot ks x → b < 2 → Closed ((x * 2 + b) ∷ ks)
  closed_more x b h hb x' b' l p k = ⊎_elim
      (λ (e : x * 2 + b ≡ x' * 2 + b'). let f : x ≡ x' = omega arith in spot-more ks _ x' (rw (← f) h))
      (λ (ne : x * 2 + b ≡ x' * 2 + b' → ⊥). spot-more ks _ x' (up x' b' l p (omega (arith, spot-old ks (x * 2 + b) (x' * 2 + b') ne))))
      (same (x * 2 + b) (x' * 2 + b'))

  -- Where a part is new, the next deeper ones are not there.
  pub below_new : (x b : ℕ) → 0 < x → b < 2 → spot ks x ≡ 0 → spot (x ∷ ks) (x * 2 + b) ≡ 0
  below_new x b p l new =
      spot-old ks x _ (λ (e : x ≡ x * 2 + b). omega arith)
      ∙ none-at (spot ks (x * 2 + b)) (λ (h : 0 < spot ks (x * 2 + b)). omega (arith, up x b l p h))

module _ {xs ks t : List ℕ} (tree : Tree xs ks t) where
  -- A node more.
  module _ {t' : List ℕ} (x i b : ℕ) (at : spot ks x ≡ i + 1) (hx : 0 < x) (hb : b < 2) (new : spot ks (x * 2 + b) ≡ 0)
      (fits : length ks * 3 + 3 ≤ length t) (g : Grown t (length ks) i b t') where
    kids-new : (x' i' b' : ℕ) → b' < 2 → spot ((x * 2 + b) ∷ ks) x' ≡ i' + 1 → get_or t' (i' * 3 + b') 0 ≡ spot ((x * 2 + b) ∷ ks) (x' * 2 + b')
    kids-new x' i' b' l h = ⊎_elim
        (λ (e : x * 2 + b ≡ x').
        let f = rw (← e) at h in
        let j : i' ≡ length ks = omega (arith, f, spot-new ks (x * 2 + b)) in
        rw (j, ← e) (g.fresh b' (omega arith) ∙ sym (below_new ks tree.up (x * 2 + b) b' (omega arith) l new)))
        (λ ne.
        let f : spot ks x' ≡ i' + 1 = sym (spot-old ks _ x' ne) ∙ h in
        ⊎_elim
        (λ (e : x * 2 + b ≡ x' * 2 + b').
        let e₁ : x ≡ x' = omega arith in
        let e₂ : b ≡ b' = omega arith in
        let e₃ : i ≡ i' = omega (arith, ap (spot ks) e₁) in
        rw (← e, ← e₂, ← e₃, spot-new ks (x * 2 + b)) g.here)
        (λ (no : x * 2 + b ≡ x' * 2 + b' → ⊥).
        rw (spot-old ks _ _ no)
        (g.rest (i' * 3 + b') (λ (q : (i' * 3 + b') / 3 ≡ length ks). omega (arith, spot-le ks x'))
        (λ (q : i' * 3 + b' ≡ i * 3 + b).
        let q₁ : spot ks x' ≡ spot ks x = omega arith in
        no (let q₂ = spot-one ks x' x (omega arith) q₁ in omega arith))
        ∙ tree.kids x' i' b' l f))
        (same (x * 2 + b) (x' * 2 + b')))
        (same (x * 2 + b) x')

    heads-new : (x' i' : ℕ) → spot ((x * 2 + b) ∷ ks) x' ≡ i' + 1 → get_or t' (i' * 3 + 2) 0 ≡ spot xs x'
    heads-new x' i' h = ⊎_elim
        (λ (e : x * 2 + b ≡ x').
        let f = rw (← e) at h in
        let j : i' ≡ length ks = omega (arith, f, spot-new ks (x * 2 + b)) in
        rw (j, ← e) (g.fresh 2 (omega arith) ∙ sym (none-at (spot xs (x * 2 + b)) (λ (p : 0 < spot xs (x * 2 + b)). omega (arith, tree.held (x * 2 + b) p)))))
        (λ ne.
        let f : spot ks x' ≡ i' + 1 = sym (spot-old ks _ x' ne) ∙ h in
        g.rest (i' * 3 + 2) (λ (q : (i' * 3 + 2) / 3 ≡ length ks). omega (arith, spot-le ks x')) (λ (q : i' * 3 + 2 ≡ i * 3 + b). omega arith) ∙ tree.heads x' i' f)
        (same (x * 2 + b) x')

    pub tree-grown : Tree xs ((x * 2 + b) ∷ ks) t'
    tree-grown = record {
      room = let s = g.size in omega arith;
      root = spot-old ks _ 1 (λ (e : x * 2 + b ≡ 1). omega arith) ∙ tree.root;
      up = closed_more ks tree.up x b (omega arith) hb;
      held = λ y p. spot-more ks _ y (tree.held y p);
      kids = kids-new;
      heads = heads-new;
    }

  -- A record more, at a node that is there: memory differs only past the nodes, and in the node's last record.
  pub tree-more : (t' : List ℕ) (x i : ℕ) → length t' ≡ length t → spot ks x ≡ i + 1 → get_or t' (i * 3 + 2) 0 ≡ length xs + 1
      → ((j : ℕ) → j < length ks * 3 → (j ≡ i * 3 + 2 → ⊥) → get_or t' j 0 ≡ get_or t j 0) → Tree (x ∷ xs) ks t'
  tree-more t' x i size at head rest = record {
    room = rw size tree.room;
    root = tree.root;
    up = tree.up;
    held = λ y p. ⊎_elim
        (λ (e : x ≡ y). rw (← e) (omega arith))
        (λ (ne : x ≡ y → ⊥). tree.held y (rw (spot-old xs x y ne) at p))
        (same x y);
    kids = λ y i' b l h.
        rest (i' * 3 + b) (omega (arith, spot-le ks y)) (λ (q : i' * 3 + b ≡ i * 3 + 2). omega arith) ∙ tree.kids y i' b l h;
    heads = λ y i' h. ⊎_elim
        (λ (e : x ≡ y).
        let j : i' ≡ i = omega (arith, ap (spot ks) e) in
        rw (j, ← e, spot-new xs x) head)
        (λ (ne : x ≡ y → ⊥).
        let j : i' * 3 + 2 ≡ i * 3 + 2 → ⊥ = λ (q : i' * 3 + 2 ≡ i * 3 + 2).
        let q₁ : spot ks x ≡ spot ks y = omega arith in ne (spot-one ks x y (omega arith) q₁) in
        rw (spot-old xs x y ne) (rest (i' * 3 + 2) (omega (arith, spot-le ks y)) j ∙ tree.heads y i' h))
        (same x y);
  }

-- ## The stores

abbrev zeros : List ℕ → ℕ → List ℕ
zeros t k = set (set (set t (k * 3) 0) (k * 3 + 1) 0) (k * 3 + 2) 0

module _ (t : List ℕ) (k : ℕ) (fits : k * 3 + 3 ≤ length t) where
  zeros-at : (d : ℕ) → d < 3 → get_or (zeros t k) (k * 3 + d) 0 ≡ 0
  zeros-at d l = ⊎_elim
      (λ (e : d ≡ 2). rw e (get_or-set_same (set (set t (k * 3) 0) (k * 3 + 1) 0) (k * 3 + 2) 0 0 (simp length-set (omega arith))))
      (λ (n₂ : d ≡ 2 → ⊥). get_or-set_other (set (set t (k * 3) 0) (k * 3 + 1) 0) (k * 3 + 2) (k * 3 + d) 0 0 (λ (q : k * 3 + d ≡ k * 3 + 2). n₂ (omega arith))
      ∙ ⊎_elim
      (λ (e : d ≡ 1). rw e (get_or-set_same (set t (k * 3) 0) (k * 3 + 1) 0 0 (simp length-set (omega arith))))
      (λ (n₁ : d ≡ 1 → ⊥).
      let e : k * 3 + d ≡ k * 3 = omega arith in
      get_or-set_other (set t (k * 3) 0) (k * 3 + 1) (k * 3 + d) 0 0 (λ (q : k * 3 + d ≡ k * 3 + 1). n₁ (omega arith))
      ∙ rw e (get_or-set_same t (k * 3) 0 0 (omega arith)))
      (same d 1))
      (same d 2)

  zeros-off : (j : ℕ) → (j / 3 ≡ k → ⊥) → get_or (zeros t k) j 0 ≡ get_or t j 0
  zeros-off j l =
      get_or-set_other (set (set t (k * 3) 0) (k * 3 + 1) 0) (k * 3 + 2) j 0 0 (λ (e : j ≡ k * 3 + 2). l (omega arith))
      ∙ get_or-set_other (set t (k * 3) 0) (k * 3 + 1) j 0 0 (λ (e : j ≡ k * 3 + 1). l (omega arith))
      ∙ get_or-set_other t (k * 3) j 0 0 (λ (e : j ≡ k * 3). l (omega arith))

  pub grown_sets : (i b v : ℕ) → i < k → b < 2 → v ≡ k + 1 → Grown t k i b (set (zeros t k) (i * 3 + b) v)
  grown_sets i b v hi hb hv = record {
    size = simp length-set;
    fresh = λ d l. get_or-set_other (zeros t k) (i * 3 + b) (k * 3 + d) v 0 (λ (e : k * 3 + d ≡ i * 3 + b). omega arith) ∙ zeros-at d l;
    here = get_or-set_same (zeros t k) (i * 3 + b) v 0 (simp length-set (omega arith)) ∙ hv;
    rest = λ j l ne. get_or-set_other (zeros t k) (i * 3 + b) j v 0 ne ∙ zeros-off j l;
    after =
        drop-set-lt ((k + 1) * 3) (zeros t k) (i * 3 + b) v (omega arith)
        ∙ drop-set-lt ((k + 1) * 3) (set (set t (k * 3) 0) (k * 3 + 1) 0) (k * 3 + 2) 0 (omega arith)
        ∙ drop-set-lt ((k + 1) * 3) (set t (k * 3) 0) (k * 3 + 1) 0 (omega arith)
        ∙ drop-set-lt ((k + 1) * 3) t (k * 3) 0 (omega arith);
  }
