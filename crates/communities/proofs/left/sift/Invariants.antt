-- `sift` meets its contract. The loop's invariant: what is found and what there is in what is left make up the whole, of both counts.
use Prim.Native.Nat.{◌+◌, ◌≤◌}
use mathlib.Core.Path.{◌≡◌}
use lib.ListN.{length}
use Rattle.std.specs.Slice.Iter.{chunks_exact_rest, chunks_exact_size}
use Rattle.rules.specs.Changes.{drop_from, thrown_out}
use Rattle.communities.specs.Tags.{drop_test}
use Rattle.communities.proofs.left.sift.Given as goal

abbrev pub invariant-loop-c : goal.invariant-loop-c
invariant-loop-c l =
    let rest = chunks_exact_rest l.c-iterator in
    (chunks_exact_size l.c-iterator ≡ 8) × (l.sifted.left + length rest ≤ length l.v) × (l.sifted.thrown_out + length rest ≤ length l.v)
    × (l.sifted.left + length (drop_from (drop_test l.dropping) rest) ≡ length (drop_from (drop_test l.dropping) l.v)) × (l.sifted.thrown_out + thrown_out rest ≡ thrown_out l.v)
