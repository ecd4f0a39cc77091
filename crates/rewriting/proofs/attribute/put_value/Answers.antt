-- `put_value` meets its contract: two stores, the communities left and the tag.
use Prim.Native.Nat.{ℕ}
use mathlib.Core.List.{List, ◌++◌}
use Rattle.octets.proofs.Writing.{Writing, writing_start, writing-room, writing_last_room, writing_step, writing_last}
use Rattle.communities.specs.Tags.{drop_test, tag_bytes}
use Rattle.rewriting.specs.Plan.{left_of}
use Rattle.rewriting.proofs.Headers.{left_is}
use Rattle.rewriting.proofs.attribute.put_value.Goals as goal

pub put_left-w-requires : goal.put_left-w-requires
put_left-w-requires c =
    let Goal : List ℕ = left_of (drop_test c.args.dropping) c.args.a.now ++ tag_bytes c.args.state in
    let begun : Writing c.args.out.now c.args.at Goal c.args.out.now c.args.at Goal = writing_start _ _ _ c.requires.1 in
    rw (left_is (drop_test c.args.dropping) c.args.a.now c.header_size-h.ensures) (writing-room (left_of (drop_test c.args.dropping) c.args.a.now) (tag_bytes c.args.state) begun)

pub put_tag-requires : goal.put_tag-requires
put_tag-requires c =
    let Goal : List ℕ = left_of (drop_test c.args.dropping) c.args.a.now ++ tag_bytes c.args.state in
    let begun : Writing c.args.out.now c.args.at Goal c.args.out.now c.args.at Goal = writing_start _ _ _ c.requires.1 in
    let halfway : Writing c.args.out.now c.args.at Goal c.put_left-w.new.out c.put_left-w.result (tag_bytes c.args.state) = writing_step begun (rw (left_is (drop_test c.args.dropping) c.args.a.now c.header_size-h.ensures) at c.put_left-w.ensures) in
    writing_last_room halfway

pub returns : goal.returns
returns c =
    let Goal : List ℕ = left_of (drop_test c.args.dropping) c.args.a.now ++ tag_bytes c.args.state in
    let begun : Writing c.args.out.now c.args.at Goal c.args.out.now c.args.at Goal = writing_start _ _ _ c.requires.1 in
    let halfway : Writing c.args.out.now c.args.at Goal c.put_left-w.new.out c.put_left-w.result (tag_bytes c.args.state) = writing_step begun (rw (left_is (drop_test c.args.dropping) c.args.a.now c.header_size-h.ensures) at c.put_left-w.ensures) in
    writing_last halfway c.put_tag.ensures
