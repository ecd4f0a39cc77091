-- `take` meets its contract.
use Rattle.rules.specs.Choice.{Candidate}
use Rattle.choice.specs.Bests.{with, left_in}
use Rattle.choice.proofs.Taking.{taken_removed, taken-first, taken_next}
use Rattle.choice.proofs.best.take.Goals as goal

pub returns-then-removed : goal.returns-then-removed
returns-then-removed c =
    let it : Candidate = record { block = c.args.block.now; state = c.args.offer.state; identifier = c.args.offer.identifier; address = c.args.offer.address } in
    taken_removed _ _ _ _ it c.requires.0 c.removed.ensures c.if-removed.true

pub returns-in_default : goal.returns-in_default
unfolding with
returns-in_default c =
    let it : Candidate = record { block = c.args.block.now; state = c.args.offer.state; identifier = c.args.offer.identifier; address = c.args.offer.address } in
    taken-first _ _ _ _ it c.requires.0 c.removed.ensures c.if-removed.false c.rank_of-rank.ensures c.keys_of-keys.ensures c.in_default.is

pub meet-requires : goal.meet-requires
unfolding left_in
meet-requires c = rw c.in-Some.is at c.requires.1

pub returns : goal.returns
returns c =
    let it : Candidate = record { block = c.args.block.now; state = c.args.offer.state; identifier = c.args.offer.identifier; address = c.args.offer.address } in
    taken_next _ _ _ _ it c.requires.0 c.removed.ensures c.if-removed.false c.rank_of-rank.ensures c.keys_of-keys.ensures c.in-Some.is c.meet.ensures
