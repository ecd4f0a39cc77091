-- `put_community` meets its contract: two stores, the header and the value.
use Prim.Native.Nat.{ℕ, ◌+◌}
use mathlib.Core.List.{List, ◌++◌}
use native.Mathlib.Omega.{arith}
use lib.ListN.{get_or}
use Rattle.octets.proofs.Writing.{Writing, writing_start, writing-rest, writing-room, writing_last_room, writing_step, writing_last, stored-none}
use Rattle.communities.specs.Tags.{drop_test, tag_bytes}
use Rattle.rewriting.specs.Plan.{header, left_of, community_bytes}
use Rattle.rewriting.proofs.Headers.{community-none, community-some}
use Rattle.rewriting.proofs.attribute.put_community.Goals as goal

pub returns-then-left-eq0 : goal.returns-then-left-eq0
returns-then-left-eq0 c = stored-none _ _ (community-none (drop_test c.args.dropping) c.args.state c.args.a.now (omega (arith, c.requires.0.is)))

pub put_header-w-requires : goal.put_header-w-requires
put_header-w-requires c =
    let Value : List ℕ = left_of (drop_test c.args.dropping) c.args.a.now ++ tag_bytes c.args.state in
    let Header : List ℕ = header (get_or c.args.a.now 0 0) (get_or c.args.a.now 1 0) (c.args.left + c.tag_size.result) in
    let Goal : List ℕ = community_bytes (drop_test c.args.dropping) c.args.state c.args.a.now in
    let Under : List ℕ → ℕ → List ℕ → Type 0 = λ out w rest. Writing c.args.out.now c.args.at Goal out w rest in
    let begun : Under c.args.out.now c.args.at (Header ++ Value) = writing-rest (writing_start _ _ _ c.requires.1) (community-some (drop_test c.args.dropping) c.args.state c.args.a.now (omega (arith, c.requires.0.is)) (omega (arith, c.requires.0.is))) in
    (omega arith, writing-room Header Value begun)

pub put_value-requires : goal.put_value-requires
put_value-requires c =
    let Value : List ℕ = left_of (drop_test c.args.dropping) c.args.a.now ++ tag_bytes c.args.state in
    let Goal : List ℕ = community_bytes (drop_test c.args.dropping) c.args.state c.args.a.now in
    let Under : List ℕ → ℕ → List ℕ → Type 0 = λ out w rest. Writing c.args.out.now c.args.at Goal out w rest in
    let Header : List ℕ = header (get_or c.args.a.now 0 0) (get_or c.args.a.now 1 0) (c.args.left + c.tag_size.result) in
    let begun : Under c.args.out.now c.args.at (Header ++ Value) = writing-rest (writing_start _ _ _ c.requires.1) (community-some (drop_test c.args.dropping) c.args.state c.args.a.now (omega (arith, c.requires.0.is)) (omega (arith, c.requires.0.is))) in
    let halfway : Under c.put_header-w.new.out c.put_header-w.result Value = writing_step begun c.put_header-w.ensures in
    (c.requires.0.whole, writing_last_room halfway)

pub returns : goal.returns
returns c =
    let Value : List ℕ = left_of (drop_test c.args.dropping) c.args.a.now ++ tag_bytes c.args.state in
    let Goal : List ℕ = community_bytes (drop_test c.args.dropping) c.args.state c.args.a.now in
    let Under : List ℕ → ℕ → List ℕ → Type 0 = λ out w rest. Writing c.args.out.now c.args.at Goal out w rest in
    let Header : List ℕ = header (get_or c.args.a.now 0 0) (get_or c.args.a.now 1 0) (c.args.left + c.tag_size.result) in
    let begun : Under c.args.out.now c.args.at (Header ++ Value) = writing-rest (writing_start _ _ _ c.requires.1) (community-some (drop_test c.args.dropping) c.args.state c.args.a.now (omega (arith, c.requires.0.is)) (omega (arith, c.requires.0.is))) in
    let halfway : Under c.put_header-w.new.out c.put_header-w.result Value = writing_step begun c.put_header-w.ensures in
    writing_last halfway c.put_value.ensures
