-- `chain` meets its contract. The invariant: the records from `cur` on give what all of them give.
use Prim.Native.Nat.{ℕ, ◌+◌, ◌-◌, ◌/◌}
use mathlib.Core.Path.{◌≡◌, refl, sym, ◌∙◌}
use native.Mathlib.Omega.{arith}
use lib.ListN.{length}
use Rattle.lookup.proofs.Descents.{out-zero, out_far, out_in, chain-out, chain-end, chain_hit, chain-on}
use Rattle.lookup.proofs.records.chain.Goals as goal

pub loop-init : goal.loop-init
loop-init c = let n : ℕ = length c.args.memory.now / 3 in
    let z : n - 0 ≡ n = omega arith in
    (omega arith, rw z refl)

pub returns-then-cur-eq0 : goal.returns-then-cur-eq0
returns-then-cur-eq0 c = let t = c.args.memory.now in
    (sym (chain-out t _ _ _ _ _ (out-zero t _ c.if-cur-eq0.true)) ∙ c.loop.invariant.1, c.loop.invariant.0)

pub returns-then-triples-cur : goal.returns-then-triples-cur
returns-then-triples-cur c = let t = c.args.memory.now in
    (sym (chain-out t _ _ _ _ _ (out_far t _ c.if-triples-cur.true)) ∙ c.loop.invariant.1, c.loop.invariant.0)

pub returns-then-allows : goal.returns-then-allows
returns-then-allows c = let t = c.args.memory.now in
    (sym (chain_hit t _ _ _ _ (out_in t _ c.if-cur-eq0.false c.if-triples-cur.false) c.index_of.ensures.0 _ (omega arith) (sym c.allows.ensures ∙ c.if-allows.true)) ∙ c.loop.invariant.1, omega arith)

pub loop-preserved : goal.loop-preserved
loop-preserved c = let t = c.args.memory.now in
    let n : ℕ = length t / 3 in
    let next : n - (c.loop.counter + 1) ≡ n - c.loop.counter - 1 = omega arith in (
      omega arith,
      rw next (sym (chain-on t _ _ _ _ (out_in t _ c.if-cur-eq0.false c.if-triples-cur.false) c.index_of.ensures.0 _ _ (omega arith) (sym c.allows.ensures ∙ c.if-allows.false) c.index_of-cur.ensures.0) ∙ c.loop.invariant.1),
    )

pub returns : goal.returns
returns c = (sym (chain-end _ _ _ _ _ _ (omega arith)) ∙ c.loop.invariant.1, c.loop.invariant.0)
