-- `read_tags` meets its contract. The loop's invariant: the state told so far, and the communities that are left, give the state; and the
-- number so far, and theirs, the number.
use Prim.Native.Nat.{◌+◌, ◌≤◌}
use mathlib.Core.Path.{◌≡◌}
use mathlib.Core.List.{foldl}
use lib.ListN.{length}
use Rattle.std.specs.Slice.Iter.{chunks_exact_rest, chunks_exact_size}
use Rattle.rules.specs.Changes.{communities, thrown_out}
use Rattle.rules.specs.Origin.{tag_values, tag_state}
use Rattle.communities.specs.Received.{with_community}
use Rattle.communities.proofs.received.read_tags.Given as goal

abbrev pub invariant-loop-c : goal.invariant-loop-c
invariant-loop-c l =
    let rest = chunks_exact_rest l.c-iterator in
    (chunks_exact_size l.c-iterator ≡ 8) × (l.tags.thrown_out + length rest ≤ length l.v)
    × (foldl with_community l.tags.state (communities rest) ≡ tag_state (tag_values l.v)) × (l.tags.thrown_out + thrown_out rest ≡ thrown_out l.v)
