-- A leading part lies on a route's part exactly when the record covers the route, at any width.
use mathlib.Core.Path.{◌≡◌, refl, sym, ap, ◌∙◌}
use mathlib.Core.Logic.{◌⊎◌, inl, inr, ⊎_elim}
use mathlib.Core.Bool.{Bool, true, false, ◌&&◌, or-false}
use Prim.Native.Nat.{ℕ, zero, suc, ◌+◌, ◌-◌, ◌*◌, ◌/◌, ◌^◌, ◌≤◌, ◌<◌}
use native.Mathlib.Nat.{eq-or-lt_of_le}
use native.Mathlib.Omega.{arith}
use borrow.Author.Tests.{le-leb, lt-leb, eq-eqb, ne_eqb, eqb-true, eqb-false}
use lib.Dec.{eqb, leb}
use lib.Pow.{shr_lt, pow-add, pow_mono}
use Rattle.rules.specs.Origin.{Vrp, agree, covers}
use Rattle.rules.proofs.Lists.{eqb_swap}
use Rattle.rules.proofs.Prefixes.{agree_quotients}
use Rattle.vrp_tree.specs.Tree.{part_of, own, on_of}
use Rattle.vrp_tree.specs.Memory.{Fits}
use Rattle.vrp_tree.proofs.Numbers.{lt_or_ge, part_up}

module _ (w : ℕ) where
  low-lt : (p k : ℕ) → k ≤ w → p < 2 ^ w → p / 2 ^ (w - k) < 2 ^ k
  low-lt p k h l = shr_lt k (w - k) (let e : k + (w - k) ≡ w = omega arith in rw e l)

  part-lt : (v p i k : ℕ) → i < k → k ≤ w → v < 2 ^ w → part_of w v i < part_of w p k
  part-lt v p i k h l f =
      let a = low-lt v i (omega arith) f in
      let b : 2 ^ (i + 1) ≤ 2 ^ k = pow_mono (omega arith) in
      let c : 2 ^ (i + 1) ≡ 2 ^ i * 2 ^ 1 = pow-add 2 i 1 in
      omega arith

  module _ (v p lv l : ℕ) (fv : v < 2 ^ w) (fp : p < 2 ^ w) (hv : lv ≤ w) (hl : l ≤ w) where
    same-part : (k : ℕ) → lv ≡ k → eqb (part_of w v lv) (part_of w p k) ≡ eqb (v / 2 ^ (w - lv)) (p / 2 ^ (w - lv))
    same-part k e = rw (← e) (go (eqb (v / 2 ^ (w - lv)) (p / 2 ^ (w - lv))) refl)
      where
        go : (b : Bool) → eqb (v / 2 ^ (w - lv)) (p / 2 ^ (w - lv)) ≡ b → eqb (part_of w v lv) (part_of w p lv) ≡ b
        go true f = eq-eqb _ _ (ap (λ (n : ℕ). 2 ^ lv + n) (eqb-true _ _ f))
        go false f = ne_eqb _ _ (λ (g : part_of w v lv ≡ part_of w p lv). eqb-false (v / 2 ^ (w - lv)) (p / 2 ^ (w - lv)) f (omega arith))

    other-part : (k : ℕ) → k ≤ w → (lv ≡ k → ⊥) → eqb (part_of w v lv) (part_of w p k) ≡ false
    other-part k h ne = ne_eqb _ _ (λ (g : part_of w v lv ≡ part_of w p k).
        ⊎_elim (λ (a : lv < k). omega (arith, part-lt v p lv k a h fv))
        (λ (a : k ≤ lv). let b : k < lv = omega arith in omega (arith, part-lt p v k lv b hv fp)) (lt_or_ge lv k))

    off : (left : ℕ) → left ≤ l → (lv < l - left) ⊎ (l < lv) → on_of (part_of w v lv) (part_of w p l) left ≡ false
    unfolding on_of
    off zero h d = rw (part_up w p l 0 h hl) (other-part _ (omega arith) (λ (e : lv ≡ l - 0). ⊎_elim (λ (a : lv < l - 0). omega arith) (λ (a : l < lv). omega arith) d))
    off (suc left) h d =
        rw (
          part_up w p l (suc left) h hl,
          other-part (l - suc left) (omega arith) (λ (e : lv ≡ l - suc left). ⊎_elim (λ (a : lv < l - suc left). omega arith) (λ (a : l < lv). omega arith) d),
        )
        (off left (omega arith) (⊎_elim (λ (a : lv < l - suc left). inl (omega arith)) (λ (a : l < lv). inr a) d))

    at : (left : ℕ) → left ≤ l → l - left ≤ lv → lv ≤ l → on_of (part_of w v lv) (part_of w p l) left ≡ eqb (v / 2 ^ (w - lv)) (p / 2 ^ (w - lv))
    unfolding on_of
    at zero h k j = rw (part_up w p l 0 h hl) (same-part (l - 0) (omega arith))
    at (suc left) h k j = rw (part_up w p l (suc left) h hl) (⊎_elim
        (λ (e : l - suc left ≡ lv). rw (same-part (l - suc left) (sym e), off left (omega arith) (inl (omega arith))) (or-false _))
        (λ (a : l - suc left < lv). rw (other-part (l - suc left) (omega arith) (λ (e : lv ≡ l - suc left). omega arith)) (at left (omega arith) (omega arith) j))
        (eq-or-lt_of_le k))

    on_quotients : on_of (part_of w v lv) (part_of w p l) l ≡ (leb lv l && eqb (v / 2 ^ (w - lv)) (p / 2 ^ (w - lv)))
    on_quotients = ⊎_elim
        (λ (a : l < lv). rw (lt-leb lv l a) (off l (omega arith) (inr a)))
        (λ (a : lv ≤ l). rw (le-leb lv l a) (at l (omega arith) (omega arith) a))
        (lt_or_ge l lv)

  -- A record's own part lies on the route's exactly when the record covers the route.
  pub on-covers : {v : Vrp} → Fits w v → (p l : ℕ) → p < 2 ^ w → l ≤ w → on_of (own w v) (part_of w p l) l ≡ covers w v p l
  unfolding covers
  on-covers {v} f p l fp hl =
      on_quotients v.prefix p v.len l f.within fp f.long hl
      ∙ ap (λ (b : Bool). leb v.len l && b) (sym (agree_quotients w v.prefix p f.within fp v.len f.long))

  -- The same with the parts' places changed: m leading bits of p are a leading part of a record's prefix.
  pub on-agree : {v : Vrp} → Fits w v → (p m : ℕ) → p < 2 ^ w → m ≤ w → on_of (part_of w p m) (own w v) v.len ≡ (leb m v.len && agree w m v.prefix p)
  on-agree {v} f p m fp hm =
      on_quotients p v.prefix m v.len fp f.within hm f.long
      ∙ ap (λ (b : Bool). leb m v.len && b) (eqb_swap (p / 2 ^ (w - m)) (v.prefix / 2 ^ (w - m)) ∙ sym (agree_quotients w v.prefix p f.within fp m hm))
