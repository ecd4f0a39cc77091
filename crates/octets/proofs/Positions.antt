-- Cutting bytes into items from a position on, over any rule of size.
use Prim.Native.Nat.{ℕ, ◌+◌, ◌-◌, ◌≤◌, ◌<◌}
use mathlib.Core.Path.{◌≡◌, sym, ap, ◌∙◌}
use mathlib.Core.List.{List, [], ◌∷◌}
use mathlib.Core.Bool.{cond}
use native.Mathlib.Omega.{arith}
use lib.ListN.{length, take, drop, length-drop, drop_of_length-le}
use lib.Dec.{leb}
use lib.Seq.{drop-drop}
use Rattle.rules.specs.Rows.{Row, fit, with_item, chop, by}
use Rattle.octets.proofs.Slices.{part-is, tail_is}
use Rattle.rules.proofs.Rows.{fit-le, fit-some, fit_none, chop_stop, chop-step}

-- A size that is known, and what `fit_size` makes of it.
pub fit-sized : (size : List ℕ → ℕ) (s : List ℕ) {n r : ℕ} → n ≡ size s → r ≡ cond (leb n (length s)) n 0 → r ≡ fit size s
unfolding fit
fit-sized size s q e = rw (← q) e

module _ (size : List ℕ → ℕ) (s : List ℕ) (at : ℕ) where
  -- An item of n bytes at the position, and then the items after it.
  pub chop-at : {n : ℕ} → n ≡ fit size (drop at s) → 0 < n
      → chop size (drop at s) ≡ with_item (take n (drop at s)) (chop size (drop (at + n) s))
  chop-at {n} e p = rw (← drop-drop n at s) (chop-step size (drop at s) e p)

  -- No item at the end.
  pub chop-end : length s ≤ at → chop size (drop at s) ≡ record { items = []; left = [] }
  chop-end h =
      let l = length-drop at s in
      let k = fit-le size (drop at s) in
      chop_stop size (drop at s) (omega arith) ∙ rw (drop_of_length-le s h)

  -- What a rule says of `&s[at..]`: the item at the position, and that it ends within the bytes.
  module _ {n : ℕ} (e : n ≡ fit size (take (length s - at) (drop at s))) where
    pub fit-here : n ≡ fit size (drop at s)
    fit-here = e ∙ ap (fit size) (tail_is s at)

    pub fit-room : at ≤ length s → at + n ≤ length s
    fit-room h =
        let l = length-drop at s in
        let k = fit-le size (drop at s) in
        let q = fit-here in
        omega arith

    -- The item is what `&s[at..at + n]` lends, or there is none.
    pub chop-next : (n ≡ 0 → ⊥) → chop size (drop at s) ≡ with_item (take (at + n - at) (drop at s)) (chop size (drop (at + n) s))
    chop-next h = rw (part-is s at n) (chop-at fit-here (omega arith))

    pub chop_torn : n ≡ 0 → chop size (drop at s) ≡ record { items = []; left = drop at s }
    chop_torn z = chop_stop size (drop at s) (sym fit-here ∙ z)

-- Items of one size from a position on: the one that `&s[at..at + n]` lends, or too few bytes for one.
module _ (n : ℕ) (s : List ℕ) (at : ℕ) where
  pub items-next : 0 < n → n ≤ length s - at
      → (chop (by n) (drop at s)).items ≡ take (at + n - at) (drop at s) ∷ (chop (by n) (drop (at + n) s)).items
  unfolding by with_item
  items-next p h =
      let k : n ≡ fit (by n) (drop at s) = sym (fit-some (by n) (drop at s) (rw length-drop h)) in
      rw (part-is s at n) (ap (λ (r : Row). r.items) (chop-at (by n) s at k p))

  pub items-end : length s - at < n → (chop (by n) (drop at s)).items ≡ []
  unfolding by
  items-end h = ap (λ (r : Row). r.items) (chop_stop (by n) (drop at s) (fit_none (by n) (drop at s) (rw length-drop h)))
