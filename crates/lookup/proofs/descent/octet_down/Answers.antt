-- `octet_down` meets its contract. The invariant: with k bits gone, the look-up from `here` gives what it gave from the node.
use native.Mathlib.Omega.{arith}
use Rattle.lookup.proofs.Steps.{descended_start, descended_end, descended_ready, descended_next, descended_none}
use Rattle.lookup.proofs.descent.octet_down.Goals as goal

pub loop-k-init : goal.loop-k-init
loop-k-init c = let a = c.args in (descended_start a.memory.now a.len a.asn (omega arith), omega arith, omega arith)

pub returns-then-left-k : goal.returns-then-left-k
returns-then-left-k c = let a = c.args in
    descended_end a.memory.now a.len a.asn c.loop-k.k c.loop-k.invariant.0 (omega arith)

pub step-below-requires : goal.step-below-requires
step-below-requires c = let a = c.args in
    (omega arith, descended_ready a.memory.now a.len a.asn c.loop-k.k c.loop-k.invariant.0 c.requires c.loop-k.invariant.2)

pub returns-then-below-eq0 : goal.returns-then-below-eq0
returns-then-below-eq0 c = let a = c.args in
    descended_none a.memory.now a.len a.asn c.loop-k.k c.loop-k.invariant.0 c.loop-k-test.true c.if-left-k.false c.step-below.ensures c.if-below-eq0.true

pub loop-k-preserved : goal.loop-k-preserved
loop-k-preserved c = let a = c.args in
    (descended_next a.memory.now a.len a.asn c.loop-k.k c.loop-k.invariant.0 c.loop-k-test.true c.if-left-k.false c.step-below.ensures, omega arith, omega arith)

pub returns : goal.returns
returns c = let a = c.args in
    descended_end a.memory.now a.len a.asn c.loop-k.k c.loop-k.invariant.0 (omega arith)
