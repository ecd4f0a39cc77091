-- What comparing two candidates shows, as bytes.
use Prim.Native.Nat.{ℕ, zero, suc}
use mathlib.Core.Path.{◌≡◌, ap, ◌∙◌}
use mathlib.Core.List.{List}
use native.Mathlib.Omega.{arith}
use borrow.Author.Tests.{ne_eqb}
use denote.Ref.{Bor}
use Rattle.rules.specs.Answers.{Answer, done, refused}
use Rattle.rules.specs.Choice.{Candidate, Shows, Compared, winners_block}

-- The slice shown holds the winner's block, where the two that were lent hold the candidates' blocks.
module _ (a b : Candidate) {decided : Answer ℕ} {first second shown : Bor (List ℕ)} {number index : ℕ} where
  pub compared-block : Compared decided first second shown number index → first.now ≡ a.block → second.now ≡ b.block
      → shown.now ≡ winners_block a b decided
  unfolding Shows winners_block
  compared-block c p q = go decided c.shows
    where
      go : (d : Answer ℕ) → Shows d first second shown → shown.now ≡ winners_block a b d
      go (done zero) e = ap (λ x. x.now) e ∙ p
      go (done (suc i)) e = rw (ne_eqb (suc i) 0 (λ z. omega (arith, z))) (ap (λ x. x.now) e ∙ q)
      go (refused r) e = e.1
