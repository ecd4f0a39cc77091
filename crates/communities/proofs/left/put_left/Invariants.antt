-- `put_left` meets its contract. The loop's invariant: all is stored but what is kept of what is left.
use mathlib.Core.Path.{◌≡◌}
use Rattle.std.specs.Slice.Iter.{chunks_exact_rest, chunks_exact_size}
use Rattle.rules.specs.Changes.{drop_from}
use Rattle.octets.proofs.Writing.{Writing}
use Rattle.communities.specs.Tags.{drop_test}
use Rattle.communities.proofs.left.put_left.Given as goal

abbrev pub invariant-loop-c : goal.invariant-loop-c
invariant-loop-c l = (chunks_exact_size l.c-iterator ≡ 8)
    × Writing l.initial.out l.at (drop_from (drop_test l.dropping) l.v) l.out l.w (drop_from (drop_test l.dropping) (chunks_exact_rest l.c-iterator))
