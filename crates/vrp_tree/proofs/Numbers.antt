-- Cases of numbers, bits, and parts with fewer bits.
use mathlib.Core.Path.{◌≡◌, refl, sym, ap, ◌∙◌}
use mathlib.Core.Logic.{◌⊎◌, inl, inr}
use mathlib.Core.Bool.{Bool, true, false}
use Prim.Native.Nat.{ℕ, suc, ◌+◌, ◌-◌, ◌*◌, ◌/◌, ◌%◌, ◌^◌, ◌≤◌, ◌<◌}
use native.Mathlib.Nat.{mul-add-div_right, mul_assoc, div-eq_of_lt}
use native.Mathlib.Numerals.{add-one}
use native.Mathlib.Omega.{arith}
use borrow.Author.Tests.{eqb-true, eqb-false, ltb-true, ltb-false}
use lib.Dec.{eqb, ltb}
use lib.Pow.{shr-shr, pow_pos, pow-add}
use Rattle.rules.specs.declared.Words.{Words}
use Rattle.rules.specs.Origin.{spelled, prefix_in}
use Rattle.vrp_tree.specs.Tree.{leading_bits, part_of}

pub same : (a b : ℕ) → (a ≡ b) ⊎ (a ≡ b → ⊥)
same a b = go (eqb a b) refl
  where
    go : (t : Bool) → eqb a b ≡ t → (a ≡ b) ⊎ (a ≡ b → ⊥)
    go true e = inl (eqb-true a b e)
    go false e = inr (eqb-false a b e)

pub lt_or_ge : (a b : ℕ) → (a < b) ⊎ (b ≤ a)
lt_or_ge a b = go (ltb a b) refl
  where
    go : (t : Bool) → ltb a b ≡ t → (a < b) ⊎ (b ≤ a)
    go true e = inl (ltb-true a b e)
    go false e = inr (ltb-false a b e)

even-add : (x y : ℕ) → (x * 2 + y) % 2 ≡ y % 2
even-add x y = omega arith

-- The last bits of a number do not see what stands above them.
below : (b r k j : ℕ) → j < k → (b * 2 ^ k + r) / 2 ^ j % 2 ≡ r / 2 ^ j % 2
below b r k j h =
    let e : k ≡ (k - j - 1) + 1 + j = omega arith in
    let f : 2 ^ k ≡ 2 ^ (k - j - 1) * 2 ^ 1 * 2 ^ j = ap (λ (i : ℕ). 2 ^ i) e ∙ pow-add 2 (k - j - 1 + 1) j ∙ ap (λ (i : ℕ). i * 2 ^ j) (pow-add 2 (k - j - 1) 1) in
    rw (f, ← mul_assoc b (2 ^ (k - j - 1) * 2 ^ 1) (2 ^ j), ← mul_assoc b (2 ^ (k - j - 1)) (2 ^ 1), mul-add-div_right (pow_pos j) (b * 2 ^ (k - j - 1) * 2 ^ 1) r)
    (even-add (b * 2 ^ (k - j - 1)) (r / 2 ^ j))

-- One bit more.
pub deeper : (q left : ℕ) → q / 2 ^ left ≡ q / 2 ^ suc left * 2 + q / 2 ^ left % 2
deeper q left =
    let e : q / 2 ^ suc left ≡ q / 2 ^ left / 2 = rw (← add-one left) (sym (shr-shr q left 1)) in
    rw e (omega arith)

-- Fewer bits of a part.
pub part_up : (w p l left : ℕ) → left ≤ l → l ≤ w → part_of w p l / 2 ^ left ≡ part_of w p (l - left)
part_up w p l left h k =
    let e : l ≡ l - left + left = omega arith in
    let f : 2 ^ l ≡ 2 ^ (l - left) * 2 ^ left = ap (λ (m : ℕ). 2 ^ m) e ∙ pow-add 2 (l - left) left in
    let g : w - l + left ≡ w - (l - left) = omega arith in
    rw f (mul-add-div_right (pow_pos left) (2 ^ (l - left)) (p / 2 ^ (w - l)) ∙ rw (shr-shr, g))

-- The empty part.
pub part-root : (w p l : ℕ) → l ≤ w → p < 2 ^ w → part_of w p l / 2 ^ l ≡ 1
part-root w p l h f =
    let e : l - l ≡ 0 = omega arith in
    let d : w - 0 ≡ w = omega arith in
    part_up w p l l (omega arith) h ∙ rw (e, d, div-eq_of_lt f)

-- The bits of a part are those of its value.
pub part-bit : (l q left : ℕ) → left < l → (2 ^ l + q) / 2 ^ left % 2 ≡ q / 2 ^ left % 2
part-bit l q left h = let e : 2 ^ l ≡ 1 * 2 ^ l = omega arith in rw e (below 1 q l left h)

-- The leading bits of a prefix of some width are those of its words.
pub leading_bits_lem : (w : ℕ) (p : Words) (len : ℕ) → len ≤ w → w ≤ 128 → prefix_in w p / 2 ^ (w - len) ≡ leading_bits p len
unfolding prefix_in leading_bits
leading_bits_lem w p len h m =
    let e : 128 - w + (w - len) ≡ 128 - len = omega arith in
    shr-shr (spelled p) (128 - w) (w - len) ∙ ap (λ (n : ℕ). spelled p / 2 ^ n) e
