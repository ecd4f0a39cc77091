-- The look-up's promise, from its one number.
use mathlib.Core.Path.{◌≡◌, refl, sym, ap, ◌∙◌, subst}
use mathlib.Core.Bool.{Bool, true, false, cond}
use mathlib.Core.List.{List}
use mathlib.Core.Option.{Option, some}
use Prim.Native.Nat.{ℕ, ◌-◌, ◌/◌, ◌%◌, ◌^◌, ◌≤◌, ◌<◌}
use native.Mathlib.Omega.{arith}
use borrow.Author.Tests.{le-leb, lt-leb}
use Rattle.rules.specs.declared.Words.{Words}
use Rattle.rules.specs.Answers.{Answer, done, refused, answer, order, first, number}
use Rattle.rules.specs.Bytes.{exists}
use Rattle.rules.specs.Settings.{prefix_length_ok, valid, not_found, invalid}
use Rattle.rules.specs.Origin.{Vrp, prefix_in, vrps, covers, matches, state_in}
use Rattle.rules.specs.Index.{visited_in, Finding, look_up, Within, LooksUp}
use Rattle.rules.specs.declared.Refusal.TheVariants.{BadSetting}
use Rattle.vrp_tree.specs.Tree.{leading_bits}
use Rattle.vrp_tree.specs.Memory.{Holds}
use Rattle.lookup.specs.Look.{look_of}
use Rattle.vrp_tree.proofs.Numbers.{leading_bits_lem}
use Rattle.lookup.proofs.Descents.{look_le}
use Rattle.lookup.proofs.Scanning.{look_scan}

state-le : (w : ℕ) (l : List Vrp) (p len : ℕ) (origin : Option ℕ) → state_in w l p len origin ≤ 3
unfolding state_in
state-le w l p len origin = go (exists (λ v. matches w v p len origin) l) (exists (λ v. covers w v p len) l)
  where
    go : (a b : Bool) → cond a valid (cond b invalid not_found) ≤ 3
    go true b = omega arith
    go false true = omega arith
    go false false = omega arith

module _ (w : ℕ) (t : List ℕ) (prefix len asn : ℕ) where
  pub looked_setting : w < len → LooksUp Holds w t prefix len asn (refused BadSetting)
  unfolding look_up Within prefix_length_ok answer order first number
  looked_setting h = record { exact = λ table held. rw (lt-leb len w h) refl; within = (h, refl) }

  pub looked : (p : Words) → prefix_in w p ≡ prefix → prefix < 2 ^ w → len ≤ w → w ≤ 128 → {bits r : ℕ} → bits ≡ len
      → r ≡ look_of t bits asn bits (leading_bits p bits) 1 1 → {a : Answer Finding} → a ≡ done (record { state = r % 4; visited = r / 4 })
      → LooksUp Holds w t prefix len asn a
  unfolding look_up Within prefix_length_ok answer order first number
  looked p e f h m {bits} {r} b d {a} g =
      let q : leading_bits p len ≡ prefix / 2 ^ (w - len) = sym (leading_bits_lem w p len h m) ∙ ap (λ (n : ℕ). n / 2 ^ (w - len)) e in
      let law : r ≡ look_of t len asn len (prefix / 2 ^ (w - len)) 1 1 =
      d ∙ ap (λ (n : ℕ). look_of t n asn n (leading_bits p n) 1 1) b ∙ ap (λ (n : ℕ). look_of t len asn len n 1 1) q in
      subst (LooksUp Holds w t prefix len asn) (sym g) (record {
        exact = λ table held.
            let scan = law ∙ look_scan w table t prefix len asn f h held.index in
            let s = state-le w (vrps w table) prefix len (some asn) in
            let x : r % 4 ≡ state_in w (vrps w table) prefix len (some asn) = omega arith in
            let y : r / 4 ≡ visited_in w (vrps w table) prefix len = omega arith in
            rw (le-leb len w h, x, y) refl;
        within = (h, omega arith, omega (arith, law, look_le t len asn len (prefix / 2 ^ (w - len)) 1 1));
      })
