-- A number's decimal digits: one for a number below 10, else the last after those of a tenth; and how many there are.
use Prim.Native.Nat.{ℕ, zero, suc, ◌+◌, ◌/◌, ◌%◌, ◌^◌, ◌≤◌, ◌<◌}
use mathlib.Core.Path.{◌≡◌, refl}
use mathlib.Core.Bool.{Bool, true, false, cond}
use mathlib.Core.List.{[], ◌∷◌, ◌++◌}
use native.Mathlib.Nat.{pow-succ'}
use native.Mathlib.Omega.{arith}
use borrow.Author.Tests.{lt-ltb, le-ltb, ltb-false}
use lib.Dec.{ltb}
use lib.ListN.{length, length-append}
use Rattle.rules.specs.Text.{decimal_up_to, decimal}

-- As many digits as fit are all, whatever more would fit.
decimal_enough : (f g n : ℕ) → n < f → n < g → decimal_up_to f n ≡ decimal_up_to g n
unfolding decimal_up_to
decimal_enough zero g n h k = absurd (omega arith)
decimal_enough (suc f) zero n h k = absurd (omega arith)
decimal_enough (suc f) (suc g) n h k = go (ltb n 10) refl (λ (m : 10 ≤ n). decimal_enough f g (n / 10) (omega arith) (omega arith))
  where
    go : (x : Bool) → ltb n 10 ≡ x → (10 ≤ n → decimal_up_to f (n / 10) ≡ decimal_up_to g (n / 10))
        → cond x ((48 + n) ∷ []) (decimal_up_to f (n / 10) ++ ((48 + n % 10) ∷ [])) ≡ cond x ((48 + n) ∷ []) (decimal_up_to g (n / 10) ++ ((48 + n % 10) ∷ []))
    go true e ih = refl
    go false e ih = rw (ih (ltb-false n 10 e)) refl

pub decimal-fuel : (f n : ℕ) → n < f → decimal_up_to f n ≡ decimal n
unfolding decimal
decimal-fuel f n h = decimal_enough f (suc n) n h (omega arith)

pub decimal-one : (n : ℕ) → n < 10 → decimal n ≡ (48 + n) ∷ []
unfolding decimal decimal_up_to
decimal-one n h = rw (lt-ltb n 10 h) refl

pub decimal-more : (n : ℕ) → 10 ≤ n → decimal n ≡ decimal (n / 10) ++ ((48 + n % 10) ∷ [])
unfolding decimal_up_to
decimal-more n h = rw (← decimal-fuel (suc n) n (omega arith), le-ltb n 10 h, decimal-fuel n (n / 10) (omega arith)) refl

-- A number below a power of 10 has at most as many digits.
decimal_digits : (f k n : ℕ) → n < 10 ^ suc k → length (decimal_up_to f n) ≤ suc k
unfolding decimal_up_to
decimal_digits zero k n h = omega arith
decimal_digits (suc f) zero n h =
    let p : n < 10 = h in
    rw (lt-ltb n 10 p) (omega arith)
decimal_digits (suc f) (suc k) n h = go (ltb n 10) (decimal_digits f k (n / 10) (omega (arith, h, pow-succ' 10 (suc k))))
  where
    go : (x : Bool) → length (decimal_up_to f (n / 10)) ≤ suc k
        → length (cond x ((48 + n) ∷ []) (decimal_up_to f (n / 10) ++ ((48 + n % 10) ∷ []))) ≤ suc (suc k)
    go true ih = omega arith
    go false ih = omega (arith, ih, length-append (decimal_up_to f (n / 10)) ((48 + n % 10) ∷ []))

-- One of 64 bits has at most 20, and a tenth of it one less.
pub decimal-length : (n : ℕ) → n < 2 ^ 64 → length (decimal n) ≤ 20
unfolding decimal
decimal-length n h = decimal_digits (suc n) 19 n (omega arith)

pub decimal_tenth : (n : ℕ) → n < 2 ^ 64 → length (decimal (n / 10)) ≤ 19
unfolding decimal
decimal_tenth n h = decimal_digits (suc (n / 10)) 18 (n / 10) (omega arith)
