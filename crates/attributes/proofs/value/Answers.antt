-- `value` meets its contract: what follows the header of the attribute at the place.
use Prim.Native.Nat.{◌+◌, ◌≤◌}
use native.Mathlib.Omega.{arith}
use lib.ListN.{length, drop}
use Rattle.attributes.proofs.Sizes.{item-least}
use Rattle.attributes.proofs.Found.{value_none, value-some, header-fits}
use Rattle.attributes.proofs.value.Goals as goal

pub returns-then-n-eq0 : goal.returns-then-n-eq0
returns-then-n-eq0 c = value_none c.args.block.now c.args.at c.attribute_size-n.ensures.is c.if-n-eq0.true

pub bounds-block-at : goal.bounds-block-at
bounds-block-at c =
    let fits : c.args.at + c.attribute_size-n.result ≤ length c.args.block.now = c.attribute_size-n.ensures.within c.if-n-eq0.false in
    let least : 3 ≤ c.attribute_size-n.result = item-least (drop c.args.at c.args.block.now) c.attribute_size-n.ensures.is c.if-n-eq0.false in
    omega (arith, fits, least)

pub overflow_add-result : goal.overflow_add-result
overflow_add-result c =
    let fits : c.args.at + c.attribute_size-n.result ≤ length c.args.block.now = c.attribute_size-n.ensures.within c.if-n-eq0.false in
    let header : c.header_size-h.result ≤ c.attribute_size-n.result = header-fits c.args.block.now c.args.at c.attribute_size-n.ensures.is c.if-n-eq0.false c.header_size-h.ensures in
    omega (arith, fits, header)

pub overflow_add-result-2 : goal.overflow_add-result-2
overflow_add-result-2 c =
    let fits : c.args.at + c.attribute_size-n.result ≤ length c.args.block.now = c.attribute_size-n.ensures.within c.if-n-eq0.false in
    omega (arith, fits)

pub slice_bounds-result-count-2 : goal.slice_bounds-result-count-2
slice_bounds-result-count-2 c =
    let header : c.header_size-h.result ≤ c.attribute_size-n.result = header-fits c.args.block.now c.args.at c.attribute_size-n.ensures.is c.if-n-eq0.false c.header_size-h.ensures in
    omega (arith, header)

pub slice_bounds-result-start-2 : goal.slice_bounds-result-start-2
slice_bounds-result-start-2 c =
    let fits : c.args.at + c.attribute_size-n.result ≤ length c.args.block.now = c.attribute_size-n.ensures.within c.if-n-eq0.false in
    let header : c.header_size-h.result ≤ c.attribute_size-n.result = header-fits c.args.block.now c.args.at c.attribute_size-n.ensures.is c.if-n-eq0.false c.header_size-h.ensures in
    omega (arith, fits, header)

pub slice_bounds-result-end-2 : goal.slice_bounds-result-end-2
slice_bounds-result-end-2 c =
    let fits : c.args.at + c.attribute_size-n.result ≤ length c.args.block.now = c.attribute_size-n.ensures.within c.if-n-eq0.false in
    let header : c.header_size-h.result ≤ c.attribute_size-n.result = header-fits c.args.block.now c.args.at c.attribute_size-n.ensures.is c.if-n-eq0.false c.header_size-h.ensures in
    omega (arith, fits, header)

pub returns : goal.returns
returns c = value-some c.args.block.now c.args.at c.attribute_size-n.ensures.is c.if-n-eq0.false c.header_size-h.ensures
