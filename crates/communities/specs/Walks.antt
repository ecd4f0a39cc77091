-- One community more in a walk: what it adds to what is found so far.
use Rattle.std.specs.Prelude.{ℕ, ◌+◌, ◌≤◌, ◌≡◌, Bool, cond, List, length}
use Rattle.rules.specs.Changes.{is_erroneous}
use Rattle.communities.specs.Tags.{kept}
use Rattle.communities.specs.Received.{with_community}
use Rattle.communities.specs.declared.findings.Sifted.{Sifted}
use Rattle.communities.specs.declared.findings.Tags.{Tags}

-- The number of tags thrown out grows by one at most.
pub record ThrownMore (before : ℕ) (c : List ℕ) (after : ℕ) : Type 0 where
  pub is : after ≡ before + cond (is_erroneous c) 1 0
  pub most : after ≤ before + 1

-- What is left grows by what is kept.
pub record SiftedMore (dropped : List ℕ → Bool) (before : Sifted) (c : List ℕ) (after : Sifted) : Type 0 where
  pub left : after.left ≡ before.left + length (kept dropped c)
  pub most : after.left ≤ before.left + 8
  pub thrown : ThrownMore before.thrown_out c after.thrown_out

-- The state told is that with the community.
pub record ReadMore (before : Tags) (c : List ℕ) (after : Tags) : Type 0 where
  pub state : after.state ≡ with_community before.state c
  pub thrown : ThrownMore before.thrown_out c after.thrown_out
