-- `communities_ok` meets its contract: a multiple of eight bytes, and some.
use Rattle.attributes.proofs.ValueFaults.{communities-none, communities-some}
use Rattle.attributes.proofs.values.communities_ok.Goals as goal

pub returns-then-v-eq0 : goal.returns-then-v-eq0
returns-then-v-eq0 c = communities-none c.args.v.now c.if-v-eq0.true

pub returns : goal.returns
returns c = communities-some c.args.v.now c.if-v-eq0.false
