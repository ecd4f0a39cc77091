-- `octet` meets its contract: the octet stands in one of the words.
use mathlib.Core.Path.{ap, ◌∙◌}
use Prim.Native.Nat.{◌-◌, ◌*◌, ◌/◌, ◌%◌, ◌^◌}
use native.Mathlib.Omega.{arith}
use Rattle.vrps.proofs.Words.{word_octet}
use Rattle.vrps.proofs.prefixes.octet.Goals as goal

pub returns : goal.returns
returns c = let a = c.args in
    ap (λ n. n / 2 ^ (24 - 8 * (a.i % 4)) % 256) c.word.ensures
    ∙ word_octet a.prefix (omega arith, omega arith, omega arith, omega arith) a.i (omega arith)
