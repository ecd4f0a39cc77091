-- `put_piece` meets its contract: one store where no communities attribute begins in the piece, else three, one
-- after another.
use Prim.Native.Nat.{ℕ, ◌-◌, ◌≤◌, ◌<◌}
use mathlib.Core.List.{List, ◌++◌}
use native.Mathlib.Omega.{arith}
use lib.ListN.{length, take, drop}
use Rattle.rules.specs.Bytes.{part}
use Rattle.octets.proofs.Writing.{Writing, writing_start, writing-rest, writing_step, writing_last, writing-room, writing_last_room}
use Rattle.communities.specs.Tags.{drop_test}
use Rattle.rewriting.specs.Plan.{community_bytes, item, piece}
use Rattle.rewriting.proofs.Pieces.{piece-after, piece-before, piece-split, item-leaving, clear_past}
use Rattle.rewriting.proofs.writer.put_piece.Goals as goal

pub put-requires : goal.put-requires
put-requires c = rw (piece-after c.args.block.now c.args.plan c.args.from c.args.to c.if-communities-from.true) at c.requires.4

pub returns-then-communities-from : goal.returns-then-communities-from
returns-then-communities-from c = let a = c.args in
    rw (piece-after a.block.now a.plan a.from a.to c.if-communities-from.true) c.put.ensures

pub put-requires-then-to-communities : goal.put-requires-then-to-communities
put-requires-then-to-communities c = rw (piece-before c.args.block.now c.args.plan c.args.from c.args.to c.if-communities-from.false c.if-to-communities.true)
    at c.requires.4

pub returns-then-to-communities : goal.returns-then-to-communities
returns-then-to-communities c = let a = c.args in
    rw (piece-before a.block.now a.plan a.from a.to c.if-communities-from.false c.if-to-communities.true) c.put-then-to-communities.ensures

pub put-start-requires : goal.put-start-requires
put-start-requires c =
    let Front : List ℕ = take (c.args.plan.communities - c.args.from) (drop c.args.from c.args.block.now) in
    let Item : List ℕ = community_bytes (drop_test c.args.plan.dropping) c.args.plan.tag
    (take (c.args.plan.rest - c.args.plan.communities) (drop c.args.plan.communities c.args.block.now)) in
    let Back : List ℕ = take (c.args.to - c.args.plan.rest) (drop c.args.plan.rest c.args.block.now) in
    let Goal : List ℕ = piece c.args.block.now c.args.plan c.args.from c.args.to in
    let begin : Writing c.args.out.now c.args.at Goal c.args.out.now c.args.at (Front ++ (Item ++ Back)) = writing-rest (writing_start c.args.out.now c.args.at Goal c.requires.4)
    (piece-split c.args.block.now c.args.plan c.args.from c.args.to c.if-communities-from.false c.if-to-communities.false) in
    writing-room Front (Item ++ Back) begin

-- The bytes handed over end where the attribute does; the piece may end later.
pub put_community-end-requires : goal.put_community-end-requires
unfolding item part
put_community-end-requires c =
    let Item : List ℕ = community_bytes (drop_test c.args.plan.dropping) c.args.plan.tag
    (take (c.args.plan.rest - c.args.plan.communities) (drop c.args.plan.communities c.args.block.now)) in
    let Back : List ℕ = take (c.args.to - c.args.plan.rest) (drop c.args.plan.rest c.args.block.now) in
    let Goal : List ℕ = piece c.args.block.now c.args.plan c.args.from c.args.to in
    let Front : List ℕ = take (c.args.plan.communities - c.args.from) (drop c.args.from c.args.block.now) in
    let begin : Writing c.args.out.now c.args.at Goal c.args.out.now c.args.at (Front ++ (Item ++ Back)) = writing-rest (writing_start c.args.out.now c.args.at Goal c.requires.4)
    (piece-split c.args.block.now c.args.plan c.args.from c.args.to c.if-communities-from.false c.if-to-communities.false) in
    let past : c.args.plan.rest ≤ c.args.to = clear_past c.args.plan c.args.to c.requires.3 c.if-to-communities.false in
    let h : c.args.plan.communities < length c.args.block.now = omega (arith, c.if-to-communities.false, c.requires.2) in (
      item-leaving c.args.block.now c.args.plan (c.requires.0.leaving h) (omega (arith, past)),
      writing-room Item Back (writing_step begin c.put-start.ensures),
    )

pub slice_bounds-put-count-3 : goal.slice_bounds-put-count-3
slice_bounds-put-count-3 c =
    let past : c.args.plan.rest ≤ c.args.to = clear_past c.args.plan c.args.to c.requires.3 c.if-to-communities.false in
    past

pub slice_bounds-put-start-3 : goal.slice_bounds-put-start-3
slice_bounds-put-start-3 c =
    let past : c.args.plan.rest ≤ c.args.to = clear_past c.args.plan c.args.to c.requires.3 c.if-to-communities.false in
    past

pub put-requires-2 : goal.put-requires-2
put-requires-2 c =
    let Goal : List ℕ = piece c.args.block.now c.args.plan c.args.from c.args.to in
    let Front : List ℕ = take (c.args.plan.communities - c.args.from) (drop c.args.from c.args.block.now) in
    let Item : List ℕ = community_bytes (drop_test c.args.plan.dropping) c.args.plan.tag
    (take (c.args.plan.rest - c.args.plan.communities) (drop c.args.plan.communities c.args.block.now)) in
    let Back : List ℕ = take (c.args.to - c.args.plan.rest) (drop c.args.plan.rest c.args.block.now) in
    let begin : Writing c.args.out.now c.args.at Goal c.args.out.now c.args.at (Front ++ (Item ++ Back)) = writing-rest (writing_start c.args.out.now c.args.at Goal c.requires.4)
    (piece-split c.args.block.now c.args.plan c.args.from c.args.to c.if-communities-from.false c.if-to-communities.false) in
    writing_last_room (writing_step (writing_step begin c.put-start.ensures) c.put_community-end.ensures)

pub returns : goal.returns
returns c =
    let Goal : List ℕ = piece c.args.block.now c.args.plan c.args.from c.args.to in
    let Front : List ℕ = take (c.args.plan.communities - c.args.from) (drop c.args.from c.args.block.now) in
    let Item : List ℕ = community_bytes (drop_test c.args.plan.dropping) c.args.plan.tag
    (take (c.args.plan.rest - c.args.plan.communities) (drop c.args.plan.communities c.args.block.now)) in
    let Back : List ℕ = take (c.args.to - c.args.plan.rest) (drop c.args.plan.rest c.args.block.now) in
    let begin : Writing c.args.out.now c.args.at Goal c.args.out.now c.args.at (Front ++ (Item ++ Back)) = writing-rest (writing_start c.args.out.now c.args.at Goal c.requires.4)
    (piece-split c.args.block.now c.args.plan c.args.from c.args.to c.if-communities-from.false c.if-to-communities.false) in
    writing_last
    (writing_step (writing_step begin c.put-start.ensures) c.put_community-end.ensures)
    c.put-2.ensures
