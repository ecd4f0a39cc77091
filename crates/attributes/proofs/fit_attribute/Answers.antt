-- `fit_attribute` meets its contract: the header by the flags, and the length that it gives.
use native.Mathlib.Omega.{arith}
use Rattle.attributes.proofs.Sizes.{fit_cut, fit-short, fit-long-cut, fit-long}
use Rattle.attributes.proofs.fit_attribute.Goals as goal

pub returns-then-s-lt3 : goal.returns-then-s-lt3
returns-then-s-lt3 c = fit_cut c.args.s.now c.if-s-lt3.true

pub returns-then-header_size-eq3 : goal.returns-then-header_size-eq3
returns-then-header_size-eq3 c = fit-short c.args.s.now c.header_size.ensures c.if-header_size-eq3.true (omega arith) c.wide.ensures.0 c.fit_size.ensures

pub returns-then-s-lt4 : goal.returns-then-s-lt4
returns-then-s-lt4 c = fit-long-cut c.args.s.now c.header_size.ensures c.if-header_size-eq3.false c.if-s-lt4.true

pub returns : goal.returns
returns c = fit-long c.args.s.now c.header_size.ensures c.if-header_size-eq3.false (omega arith) c.number2.ensures.0 c.fit_size-2.ensures
