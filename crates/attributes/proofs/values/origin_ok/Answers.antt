-- `origin_ok` meets its contract: one byte of at most 2.
use Rattle.attributes.proofs.ValueFaults.{origin-other, origin-one}
use Rattle.attributes.proofs.values.origin_ok.Goals as goal

pub returns-then-v-ne1 : goal.returns-then-v-ne1
returns-then-v-ne1 c = origin-other c.args.v.now c.if-v-ne1.true

pub returns : goal.returns
returns c = origin-one c.args.v.now c.if-v-ne1.false
