-- `down` meets its contract: the bits left fall.
use native.Mathlib.Omega.{arith}
use Rattle.vrp_tree.specs.Tree.{leading_bits}
use Rattle.lookup.proofs.Steps.{down-none, down_last, down-on, octet_begins}
use Rattle.lookup.proofs.descent.+down.Goals as goal

pub returns-then-next-eq0 : goal.returns-then-next-eq0
returns-then-next-eq0 t c =
    let a = c.args in
    down-none a.memory.now a.len a.asn (leading_bits a.prefix a.len) a.left a.node a.seen
    (octet_begins a.prefix a.len a.left (omega arith) (omega arith) (omega arith) c.octet.ensures) c.octet_down-next.ensures c.if-next-eq0.true

pub returns-then-left-le-OCTET : goal.returns-then-left-le-OCTET
returns-then-left-le-OCTET t c =
    let a = c.args in
    down_last a.memory.now a.len a.asn (leading_bits a.prefix a.len) a.left a.node a.seen
    (octet_begins a.prefix a.len a.left (omega arith) (omega arith) (omega arith) c.octet.ensures)
    c.octet_down-next.ensures c.if-left-le-OCTET.true c.arrive-then-left-le-OCTET.ensures

pub returns : goal.returns
returns t c =
    let a = c.args in
    down-on a.memory.now a.len a.asn (leading_bits a.prefix a.len) a.left a.node a.seen
    (octet_begins a.prefix a.len a.left (omega arith) (omega arith) (omega arith) c.octet.ensures) c.octet_down-next.ensures c.down.ensures
