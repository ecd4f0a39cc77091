-- The bytes of a tag, by its state.
use Prim.Native.Nat.{ℕ, ◌≤◌, ◌<◌}
use mathlib.Core.Path.{◌≡◌}
use mathlib.Core.List.{[], ◌∷◌}
use borrow.Author.Tests.{le-leb, lt-leb}
use Rattle.rules.specs.Changes.{tag}
use Rattle.communities.specs.Tags.{tag_bytes}

pub tag-told : (state : ℕ) → state ≤ 2 → tag_bytes state ≡ 0x43 ∷ 0 ∷ 0 ∷ 0 ∷ 0 ∷ 0 ∷ 0 ∷ state ∷ []
unfolding tag_bytes tag
tag-told state h = rw (le-leb state 2 h)

pub tag_untold : (state : ℕ) → 2 < state → tag_bytes state ≡ []
unfolding tag_bytes
tag_untold state h = rw (lt-leb state 2 h)
