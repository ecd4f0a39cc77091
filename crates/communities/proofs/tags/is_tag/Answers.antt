-- `is_tag` meets its contract: the first two bytes decide.
use mathlib.Core.Path.{◌≡◌}
use mathlib.Core.Bool.{false}
use mathlib.Core.List.{List}
use Prim.Native.Nat.{ℕ}
use lib.Dec.{eqb}
use lib.ListN.{get_or}
use borrow.Author.Tests.{eq-eqb, ne_eqb}
use Rattle.rules.specs.Changes.{is_tag}
use Rattle.communities.proofs.tags.is_tag.Goals as goal

tag-second : (c : List ℕ) → get_or c 0 0 ≡ 0x43 → eqb (get_or c 1 0) 0 ≡ is_tag c
unfolding is_tag
tag-second c h = rw (eq-eqb _ _ h)

tag-first : (c : List ℕ) → (get_or c 0 0 ≡ 0x43 → ⊥) → false ≡ is_tag c
unfolding is_tag
tag-first c h = rw (ne_eqb _ _ h)

pub returns-then-c-ne-TAG_TYPE : goal.returns-then-c-ne-TAG_TYPE
returns-then-c-ne-TAG_TYPE c = tag-first c.args.c.now c.if-c-ne-TAG_TYPE.true

pub returns : goal.returns
returns c = tag-second c.args.c.now c.if-c-ne-TAG_TYPE.false
