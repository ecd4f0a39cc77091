-- `same_community` meets its contract: the first byte, the second, and the other six.
use mathlib.Core.Path.{◌≡◌, refl, sym, ◌∙◌}
use mathlib.Core.Bool.{and-false}
use mathlib.Core.List.{List}
use Prim.Native.Nat.{ℕ}
use native.Mathlib.Omega.{arith}
use lib.Dec.{eqb}
use lib.ListN.{length, get_or, take, drop, length-drop}
use lib.Seq.{take_all}
use borrow.Author.Tests.{eq-eqb, ne_eqb}
use Rattle.communities.proofs.Matched.{same-two}
use Rattle.communities.proofs.left.same_community.Goals as goal

-- What `&c[2..8]` lends of eight bytes.
others : (c : List ℕ) → length c ≡ 8 → take 6 (drop 2 c) ≡ drop 2 c
others c e = take_all 6 (drop 2 c) (omega (arith, e, length-drop 2 c))

pub returns-then-c-d : goal.returns-then-c-d
returns-then-c-d c =
    let x = c.args.c.now in
    let y = c.args.d.now in
    sym (same-two x y (omega (arith, c.requires.0)) (omega (arith, c.requires.1)) ∙ rw (ne_eqb (get_or x 0 0) (get_or y 0 0) c.if-c-d.true) refl)

pub returns-then-c-d-2 : goal.returns-then-c-d-2
returns-then-c-d-2 c =
    let x = c.args.c.now in
    let y = c.args.d.now in
    sym
    (same-two x y (omega (arith, c.requires.0)) (omega (arith, c.requires.1))
    ∙ rw (ne_eqb (get_or x 1 0) (get_or y 1 0) c.if-c-d-2.true) (and-false (eqb (get_or x 0 0) (get_or y 0 0))))

pub returns : goal.returns
returns c =
    let x = c.args.c.now in
    let y = c.args.d.now in
    c.same_bytes.ensures
    ∙ rw (others x c.requires.0, others y c.requires.1)
    (sym
    (same-two x y (omega (arith, c.requires.0)) (omega (arith, c.requires.1))
    ∙ rw (eq-eqb (get_or x 0 0) (get_or y 0 0) c.if-c-d.false, eq-eqb (get_or x 1 0) (get_or y 1 0) c.if-c-d-2.false) refl))
