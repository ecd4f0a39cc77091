-- `allows` meets its contract: one law for each way out.
use Rattle.lookup.proofs.Descents.{allowed_longer, allowed-zero, allowed_same}
use Rattle.lookup.proofs.records.allows.Goals as goal

pub returns-then-longer : goal.returns-then-longer
returns-then-longer c = let a = c.args in allowed_longer a.len a.asn a.most a.owner c.if-longer.true

pub returns-then-owner-eq0 : goal.returns-then-owner-eq0
returns-then-owner-eq0 c = let a = c.args in allowed-zero a.len a.asn a.most a.owner c.if-longer.false c.if-owner-eq0.true

pub returns : goal.returns
returns c = let a = c.args in allowed_same a.len a.asn a.most a.owner c.if-longer.false c.if-owner-eq0.false
