-- `copy` meets its contract. The loop's invariant: out is what it was with the first j bytes of src in it from `at` on.
use Prim.Native.Nat.{◌+◌, ◌<◌}
use mathlib.Core.Path.{◌≡◌, refl, ◌∙◌}
use native.Mathlib.Numerals.{add-one}
use native.Mathlib.Omega.{arith}
use lib.ListN.{length, length-set}
use lib.Seq.{paste-zero, paste-suc, take-length}
use Rattle.octets.specs.Buffer.{splice}
use borrow.Author.Rules.{rules}
use Rattle.octets.proofs.buffer.copy.Goals as goal

pub loop-j-init : goal.loop-j-init
loop-j-init c = (paste-zero c.args.out.now c.args.at c.args.src.now, search rules, refl)

pub loop-j-preserved : goal.loop-j-preserved
loop-j-preserved c = let l = c.loop-j in
    let a = c.args in
    let inside : a.at + l.j < length a.out.now = omega arith in
    (rw (l.invariant.0, add-one) (paste-suc a.out.now a.at a.src.now l.j 0 inside (omega arith)), omega arith, simp length-set (omega arith))

pub returns : goal.returns
unfolding splice
returns c = let l = c.loop-j in
    let a = c.args in
    let all : l.j ≡ length a.src.now = omega arith in
    record { next = omega arith; is = l.invariant.0 ∙ rw (all, take-length) }
