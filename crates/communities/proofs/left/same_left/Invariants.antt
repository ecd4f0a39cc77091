-- `same_left` meets its contract. The loop's invariant: what is left to compare is the same exactly where all is.
use mathlib.Core.Path.{◌≡◌}
use Rattle.std.specs.Slice.Iter.{chunks_exact_rest, chunks_exact_size}
use Rattle.communities.specs.Tags.{drop_test, tag_bytes}
use Rattle.communities.proofs.Matched.{Matched}
use Rattle.communities.proofs.left.same_left.Given as goal

abbrev pub invariant-loop-c : goal.invariant-loop-c
invariant-loop-c l = (chunks_exact_size l.c-iterator ≡ 8) × Matched (drop_test l.dropping) l.v (tag_bytes l.state) l.t (chunks_exact_rest l.c-iterator) l.w
