-- `read` meets its contract: the loop walks the attributes up to a fault, and at the end ORIGIN and AS_PATH have been met.
use Prim.Native.Nat.{ℕ, ◌+◌, ◌≤◌}
use mathlib.Core.Path.{◌≡◌, sym, ◌∙◌}
use mathlib.Core.List.{List}
use native.Mathlib.Omega.{arith}
use Rattle.std.proofs.lemmas.Result.{err_from_is_err_and}
use lib.ListN.{length, drop}
use Rattle.rules.specs.Rows.{fit}
use Rattle.rules.specs.Attributes.{attribute_size}
use Rattle.octets.proofs.Slices.{part-is}
use Rattle.octets.proofs.Positions.{fit-here, fit-room}
use Rattle.attributes.proofs.Sizes.{item-length, item-least, item-whole}
use Rattle.attributes.proofs.Walk.{walk_start, walk_torn, walk_repeated, walk_own, walk_on, walk_no-origin, walk_no-path, walk_clean}
use Rattle.attributes.proofs.read.Goals as goal

pub loop-at-init : goal.loop-at-init
loop-at-init c = walk_start c.args.block.now c.nowhere-layout.ensures

pub returns-then-n-eq0 : goal.returns-then-n-eq0
returns-then-n-eq0 c =
    let bytes : List ℕ = c.args.block.now in
    let size : c.fit_attribute-n.result ≡ fit attribute_size (drop c.loop-at.at bytes) = fit-here attribute_size bytes c.loop-at.at c.fit_attribute-n.ensures in
    walk_torn c.loop-at.invariant (omega arith) (sym c.if-n-eq0.true ∙ size)

pub overflow_add-a : goal.overflow_add-a
overflow_add-a c =
    let bytes : List ℕ = c.args.block.now in
    let fits : c.loop-at.at + c.fit_attribute-n.result ≤ length bytes = fit-room attribute_size bytes c.loop-at.at c.fit_attribute-n.ensures c.loop-at.invariant.within in
    omega (arith, fits)

pub slice_bounds-a-end : goal.slice_bounds-a-end
slice_bounds-a-end c =
    let bytes : List ℕ = c.args.block.now in
    let fits : c.loop-at.at + c.fit_attribute-n.result ≤ length bytes = fit-room attribute_size bytes c.loop-at.at c.fit_attribute-n.ensures c.loop-at.invariant.within in
    omega (arith, fits)

pub bounds-a-1 : goal.bounds-a-1
bounds-a-1 c =
    let bytes : List ℕ = c.args.block.now in
    let size : c.fit_attribute-n.result ≡ fit attribute_size (drop c.loop-at.at bytes) = fit-here attribute_size bytes c.loop-at.at c.fit_attribute-n.ensures in
    rw part-is (omega (arith, item-length (drop c.loop-at.at bytes) size c.if-n-eq0.false, item-least (drop c.loop-at.at bytes) size c.if-n-eq0.false))

pub returns-then-earlier : goal.returns-then-earlier
returns-then-earlier c =
    let bytes : List ℕ = c.args.block.now in
    let size : c.fit_attribute-n.result ≡ fit attribute_size (drop c.loop-at.at bytes) = fit-here attribute_size bytes c.loop-at.at c.fit_attribute-n.ensures in
    walk_repeated c.loop-at.invariant size c.if-n-eq0.false c.wide-k.ensures.0 c.wide-k.ensures.1 c.if-earlier.true

pub note-requires : goal.note-requires
note-requires c =
    let bytes : List ℕ = c.args.block.now in
    let size : c.fit_attribute-n.result ≡ fit attribute_size (drop c.loop-at.at bytes) = fit-here attribute_size bytes c.loop-at.at c.fit_attribute-n.ensures in
    item-whole bytes c.loop-at.at size c.if-n-eq0.false

pub returns-in_err-layout : goal.returns-in_err-layout
returns-in_err-layout c =
    let p = err_from_is_err_and c.from_residual.result c.from_residual.ensures.1 in
    let bytes : List ℕ = c.args.block.now in
    let size : c.fit_attribute-n.result ≡ fit attribute_size (drop c.loop-at.at bytes) = fit-here attribute_size bytes c.loop-at.at c.fit_attribute-n.ensures in
    rw (p.1, p.2) (walk_own c.loop-at.invariant size c.if-n-eq0.false c.wide-k.ensures.0 c.wide-k.ensures.1 c.if-earlier.false c.in_err-layout.ensures)

pub overflow_add-at : goal.overflow_add-at
overflow_add-at c =
    let bytes : List ℕ = c.args.block.now in
    let fits : c.loop-at.at + c.fit_attribute-n.result ≤ length bytes = fit-room attribute_size bytes c.loop-at.at c.fit_attribute-n.ensures c.loop-at.invariant.within in
    omega (arith, fits)

pub loop-at-smaller : goal.loop-at-smaller
loop-at-smaller c =
    let bytes : List ℕ = c.args.block.now in
    let size : c.fit_attribute-n.result ≡ fit attribute_size (drop c.loop-at.at bytes) = fit-here attribute_size bytes c.loop-at.at c.fit_attribute-n.ensures in
    let fits : c.loop-at.at + c.fit_attribute-n.result ≤ length bytes = fit-room attribute_size bytes c.loop-at.at c.fit_attribute-n.ensures c.loop-at.invariant.within in
    omega (arith, fits, item-least (drop c.loop-at.at bytes) size c.if-n-eq0.false)

pub loop-at-preserved : goal.loop-at-preserved
loop-at-preserved c =
    let bytes : List ℕ = c.args.block.now in
    let size : c.fit_attribute-n.result ≡ fit attribute_size (drop c.loop-at.at bytes) = fit-here attribute_size bytes c.loop-at.at c.fit_attribute-n.ensures in
    let fits : c.loop-at.at + c.fit_attribute-n.result ≤ length bytes = fit-room attribute_size bytes c.loop-at.at c.fit_attribute-n.ensures c.loop-at.invariant.within in
    walk_on c.loop-at.invariant size c.if-n-eq0.false c.wide-k.ensures.0 c.wide-k.ensures.1 c.if-earlier.false fits c.in_ok-layout.ensures

pub returns-then-not-seen : goal.returns-then-not-seen
returns-then-not-seen c = walk_no-origin c.loop-at.invariant c.loop-at-test.false c.if-not-seen.true

pub returns-then-not-seen-2 : goal.returns-then-not-seen-2
returns-then-not-seen-2 c = walk_no-path c.loop-at.invariant c.loop-at-test.false c.if-not-seen.false c.if-not-seen-2.true

pub returns : goal.returns
returns c = walk_clean c.loop-at.invariant c.loop-at-test.false c.if-not-seen.false c.if-not-seen-2.false
