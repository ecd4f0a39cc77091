-- `put` meets its contract: one law for each way out.
use Prim.Native.Nat.{ℕ, ◌+◌, ◌-◌, ◌/◌, ◌^◌, ◌≤◌, ◌<◌}
use mathlib.Core.Path.{◌≡◌, refl, sym, ap}
use native.Mathlib.Omega.{arith}
use lib.ListN.{length, get_or}
use lib.Seq.{length-take-le}
use Rattle.rules.specs.Origin.{Vrp, vrp_size, vrp}
use Rattle.vrps.specs.Widths.{bits}
use Rattle.vrps.proofs.Words.{whole_bits, prefix_width}
use Rattle.vrp_tree.specs.Tree.{leading_bits, own}
use Rattle.vrp_tree.specs.Memory.{Fits}
use Rattle.index.proofs.Holding.{record-fits, record-own, puts_many, puts_past, puts_short, puts_empty, puts_large, puts_full, puts_done}
use Rattle.index.proofs.placing.put.Goals as goal

pub returns-then-records-ge-VRPS_MAX : goal.returns-then-records-ge-VRPS_MAX
returns-then-records-ge-VRPS_MAX c = let a = c.args in puts_many (bits a.family) _ a.memory.now a.records a.nodes c.if-records-ge-VRPS_MAX.true

pub returns-then-triples-records : goal.returns-then-triples-records
returns-then-triples-records c = let a = c.args in puts_past (bits a.family) _ a.memory.now a.records a.nodes c.if-triples-records.true

pub returns-then-cap-nodes : goal.returns-then-cap-nodes
returns-then-cap-nodes c = let a = c.args in puts_short (bits a.family) _ a.memory.now a.records a.nodes c.if-cap-nodes.true

pub returns-then-nodes-eq0 : goal.returns-then-nodes-eq0
returns-then-nodes-eq0 c = let a = c.args in puts_empty (bits a.family) _ a.memory.now a.records a.nodes c.if-nodes-eq0.true

pub returns-then-nodes-gt-NODES_MAX : goal.returns-then-nodes-gt-NODES_MAX
returns-then-nodes-gt-NODES_MAX c = let a = c.args in
    puts_large (bits a.family) _ a.memory.now a.records a.nodes (whole_bits a.family).most c.if-nodes-gt-NODES_MAX.true

pub slice_bounds-words-end : goal.slice_bounds-words-end
unfolding vrp_size
slice_bounds-words-end c = sym (length-take-le c.octets-at.result c.args.bytes.now (omega (arith, c.requires.0)))

pub words-prefix-requires : goal.words-prefix-requires
unfolding vrp_size
words-prefix-requires c = rw (c.octets-at.ensures.0, prefix_width (whole_bits c.args.family) c.args.bytes.now (omega (arith, c.requires.0))) (whole_bits c.args.family)

pub bounds-bytes-at : goal.bounds-bytes-at
unfolding vrp_size
bounds-bytes-at c = omega (arith, c.requires.0)

pub reach-way-requires : goal.reach-way-requires
unfolding vrp
reach-way-requires c =
    let added : Vrp = vrp (bits c.args.family) c.args.bytes.now in
    let len_is : c.wide-len.result ≡ added.len = rw c.octets-at.ensures.0 at c.wide-len.ensures.0 in
    let fits : Fits (bits c.args.family) added = record-fits (whole_bits c.args.family) _ (λ i. omega (arith, c.shared_slice_known-1.given i)) c.requires.0 c.requires.1 in
    let len-most : c.wide-len.result ≤ 128 = omega (arith, len_is, fits.long, (whole_bits c.args.family).most) in
    (len-most, omega arith, omega arith)

pub returns-then-cap-nodes-2 : goal.returns-then-cap-nodes-2
unfolding vrp
returns-then-cap-nodes-2 c =
    let added : Vrp = vrp (bits c.args.family) c.args.bytes.now in
    let len_is : c.wide-len.result ≡ added.len = rw c.octets-at.ensures.0 at c.wide-len.ensures.0 in
    let fits : Fits (bits c.args.family) added = record-fits (whole_bits c.args.family) _ (λ i. omega (arith, c.shared_slice_known-1.given i)) c.requires.0 c.requires.1 in
    let own_is : 2 ^ c.wide-len.result + leading_bits c.words-prefix.result c.wide-len.result ≡ own (bits c.args.family) added = record-own (whole_bits c.args.family) _ c.requires.0 c.requires.1 _ (rw c.octets-at.ensures.0 at c.words-prefix.ensures) _ len_is in
    let inside : c.args.records < length c.args.memory.now / 3 = omega arith in
    let a = c.args in
    puts_full (bits a.family) added a.memory.now a.records a.nodes fits own_is len_is c.reach-way.ensures inside c.if-cap-nodes-2.true

pub extend-node-requires : goal.extend-node-requires
unfolding vrp
extend-node-requires c =
    let added : Vrp = vrp (bits c.args.family) c.args.bytes.now in
    let len_is : c.wide-len.result ≡ added.len = rw c.octets-at.ensures.0 at c.wide-len.ensures.0 in
    let fits : Fits (bits c.args.family) added = record-fits (whole_bits c.args.family) _ (λ i. omega (arith, c.shared_slice_known-1.given i)) c.requires.0 c.requires.1 in
    let len-most : c.wide-len.result ≤ 128 = omega (arith, len_is, fits.long, (whole_bits c.args.family).most) in
    let w = c.reach-way.ensures.within in
    (w.2, len-most, w.0, w.1, omega arith, omega arith)

pub bounds-bytes-at-2 : goal.bounds-bytes-at-2
unfolding vrp_size
bounds-bytes-at-2 c = omega (arith, c.requires.0)

pub overflow_cast-most : goal.overflow_cast-most
overflow_cast-most c =
    let added : Vrp = vrp (bits c.args.family) c.args.bytes.now in
    let fits : Fits (bits c.args.family) added = record-fits (whole_bits c.args.family) _ (λ i. omega (arith, c.shared_slice_known-1.given i)) c.requires.0 c.requires.1 in
    record { fits = omega (arith, c.shared_slice_known-3-1.given (c.octets-at.result + 1)) }

pub number4_at-asn-requires : goal.number4_at-asn-requires
unfolding vrp_size
number4_at-asn-requires c = omega (arith, c.requires.0)

pub returns : goal.returns
unfolding vrp
returns c =
    let added : Vrp = vrp (bits c.args.family) c.args.bytes.now in
    let len_is : c.wide-len.result ≡ added.len = rw c.octets-at.ensures.0 at c.wide-len.ensures.0 in
    let fits : Fits (bits c.args.family) added = record-fits (whole_bits c.args.family) _ (λ i. omega (arith, c.shared_slice_known-1.given i)) c.requires.0 c.requires.1 in
    let own_is : 2 ^ c.wide-len.result + leading_bits c.words-prefix.result c.wide-len.result ≡ own (bits c.args.family) added = record-own (whole_bits c.args.family) _ c.requires.0 c.requires.1 _ (rw c.octets-at.ensures.0 at c.words-prefix.ensures) _ len_is in
    let inside : c.args.records < length c.args.memory.now / 3 = omega arith in
    let cap-least : c.args.nodes ≤ length c.args.memory.now / 3 - 1 - c.args.records = omega arith in
    let a = c.args in
    puts_done (bits a.family) added a.memory.now a.records a.nodes fits own_is len_is c.reach-way.ensures
    c.extend-node.ensures refl inside (omega (arith, cap-least, c.if-cap-nodes-2.false))
    (ap (λ (n : ℕ). get_or a.bytes.now (n + 1) 0) c.octets-at.ensures.0) (rw c.octets-at.ensures.0 at c.number4_at-asn.ensures)
    c.narrow.ensures c.store.ensures
