-- `decode` meets its contract. The loop's invariant: all is stored but what the pairs left spell.
use mathlib.Core.Path.{◌≡◌}
use Rattle.std.specs.Slice.Iter.{chunks_exact_rest, chunks_exact_size}
use Rattle.std.specs.Iterator.Adapters.{enumerate_source, enumerate_count}
use Rattle.text.proofs.Spelling.{Decoding}
use Rattle.text.proofs.hex.decode.Given as goal

abbrev pub invariant-loop-n : goal.invariant-loop-n
invariant-loop-n l = (chunks_exact_size (enumerate_source l.n-iterator) ≡ 2)
    × Decoding l.line l.initial.raw l.raw (chunks_exact_rest (enumerate_source l.n-iterator)) (enumerate_count l.n-iterator)
