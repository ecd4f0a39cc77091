-- `note` meets its contract: no record, a state that is valid already, or the records at the node.
use Rattle.lookup.proofs.Descents.{note_none, note_valid, note_chain}
use Rattle.lookup.proofs.records.note.Goals as goal

pub returns-then-head-eq0 : goal.returns-then-head-eq0
returns-then-head-eq0 c = let a = c.args in note_none a.memory.now a.len a.asn a.seen a.head c.if-head-eq0.true

pub returns-then-state : goal.returns-then-state
returns-then-state c = let a = c.args in note_valid a.memory.now a.len a.asn a.seen a.head c.if-state.true

pub returns : goal.returns
returns c = let a = c.args in
    note_chain a.memory.now a.len a.asn a.seen a.head c.chain.result c.if-state.false c.chain.ensures.0
