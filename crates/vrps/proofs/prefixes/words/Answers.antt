-- `words` meets its contract.
use native.Mathlib.Omega.{arith}
use Rattle.vrps.proofs.Words.{prefix-bytes, four-words}
use Rattle.vrps.proofs.prefixes.words.Goals as goal

pub returns : goal.returns
returns c = prefix-bytes _ (omega arith, omega arith, omega arith, omega arith) _ c.requires (λ j. (c.shared_slice_known-1.given j).fits)
    (four-words _ c.requires c.word_or_zero.ensures c.word_or_zero-2.ensures c.word_or_zero-3.ensures c.word_or_zero-4.ensures)
