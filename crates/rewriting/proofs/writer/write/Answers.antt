-- `write` meets its contract: five stores, one after another.
use Prim.Native.Nat.{ℕ}
use mathlib.Core.List.{List, ◌++◌}
use mathlib.Core.Logic.{inr}
use native.Mathlib.Nat.{zero-add, le_refl}
use native.Mathlib.Omega.{arith}
use lib.ListN.{length}
use Rattle.octets.proofs.Writing.{Writing, writing_start, writing_step, writing_last, writing-room, writing_last_room}
use Rattle.rewriting.specs.Plan.{new_tag_bytes, new_otc_bytes, piece, emitted}
use Rattle.rewriting.proofs.writer.write.Goals as goal

pub put_piece-tag-requires : goal.put_piece-tag-requires
unfolding emitted
put_piece-tag-requires c =
    let First : List ℕ = piece c.args.block.now c.args.plan 0 c.args.plan.new_tag in
    let NewTag : List ℕ = new_tag_bytes c.args.plan.flags c.args.plan.left c.args.plan.tag in
    let Middle : List ℕ = piece c.args.block.now c.args.plan c.args.plan.new_tag c.args.plan.new_otc in
    let NewOtc : List ℕ = new_otc_bytes c.args.plan.flags c.args.plan.otc in
    let Last : List ℕ = piece c.args.block.now c.args.plan c.args.plan.new_otc (length c.args.block.now) in
    let At : List ℕ → ℕ → List ℕ → Type 0 = λ out w rest. Writing c.args.out.now 0 (emitted c.args.block.now c.args.plan) out w rest in
    let begin : At c.args.out.now 0 (First ++ (NewTag ++ (Middle ++ (NewOtc ++ Last)))) = writing_start c.args.out.now 0 (emitted c.args.block.now c.args.plan) (rw zero-add c.requires.1) in
    let k = c.requires.0 in (
      k,
      omega arith,
      omega (arith, k.tag_place, k.otc_place),
      k.tag_clear,
      writing-room First (NewTag ++ (Middle ++ (NewOtc ++ Last))) begin,
    )

pub put_new_tag-middle-requires : goal.put_new_tag-middle-requires
unfolding emitted
put_new_tag-middle-requires c =
    let NewTag : List ℕ = new_tag_bytes c.args.plan.flags c.args.plan.left c.args.plan.tag in
    let Middle : List ℕ = piece c.args.block.now c.args.plan c.args.plan.new_tag c.args.plan.new_otc in
    let NewOtc : List ℕ = new_otc_bytes c.args.plan.flags c.args.plan.otc in
    let Last : List ℕ = piece c.args.block.now c.args.plan c.args.plan.new_otc (length c.args.block.now) in
    let At : List ℕ → ℕ → List ℕ → Type 0 = λ out w rest. Writing c.args.out.now 0 (emitted c.args.block.now c.args.plan) out w rest in
    let First : List ℕ = piece c.args.block.now c.args.plan 0 c.args.plan.new_tag in
    let begin : At c.args.out.now 0 (First ++ (NewTag ++ (Middle ++ (NewOtc ++ Last)))) = writing_start c.args.out.now 0 (emitted c.args.block.now c.args.plan) (rw zero-add c.requires.1) in
    let after_first : At c.put_piece-tag.new.out c.put_piece-tag.result (NewTag ++ (Middle ++ (NewOtc ++ Last))) = writing_step begin c.put_piece-tag.ensures in
    writing-room NewTag (Middle ++ (NewOtc ++ Last)) after_first

pub put_piece-otc-requires : goal.put_piece-otc-requires
unfolding emitted
put_piece-otc-requires c =
    let Middle : List ℕ = piece c.args.block.now c.args.plan c.args.plan.new_tag c.args.plan.new_otc in
    let NewOtc : List ℕ = new_otc_bytes c.args.plan.flags c.args.plan.otc in
    let Last : List ℕ = piece c.args.block.now c.args.plan c.args.plan.new_otc (length c.args.block.now) in
    let At : List ℕ → ℕ → List ℕ → Type 0 = λ out w rest. Writing c.args.out.now 0 (emitted c.args.block.now c.args.plan) out w rest in
    let NewTag : List ℕ = new_tag_bytes c.args.plan.flags c.args.plan.left c.args.plan.tag in
    let First : List ℕ = piece c.args.block.now c.args.plan 0 c.args.plan.new_tag in
    let begin : At c.args.out.now 0 (First ++ (NewTag ++ (Middle ++ (NewOtc ++ Last)))) = writing_start c.args.out.now 0 (emitted c.args.block.now c.args.plan) (rw zero-add c.requires.1) in
    let after_first : At c.put_piece-tag.new.out c.put_piece-tag.result (NewTag ++ (Middle ++ (NewOtc ++ Last))) = writing_step begin c.put_piece-tag.ensures in
    let after_tag : At c.put_new_tag-middle.new.out c.put_new_tag-middle.result (Middle ++ (NewOtc ++ Last)) = writing_step after_first c.put_new_tag-middle.ensures in
    let k = c.requires.0 in
    (k, omega (arith, k.tag_place), omega (arith, k.otc_place), k.otc_clear, writing-room Middle (NewOtc ++ Last) after_tag)

pub put_new_otc-last-requires : goal.put_new_otc-last-requires
unfolding emitted
put_new_otc-last-requires c =
    let NewOtc : List ℕ = new_otc_bytes c.args.plan.flags c.args.plan.otc in
    let Last : List ℕ = piece c.args.block.now c.args.plan c.args.plan.new_otc (length c.args.block.now) in
    let At : List ℕ → ℕ → List ℕ → Type 0 = λ out w rest. Writing c.args.out.now 0 (emitted c.args.block.now c.args.plan) out w rest in
    let Middle : List ℕ = piece c.args.block.now c.args.plan c.args.plan.new_tag c.args.plan.new_otc in
    let NewTag : List ℕ = new_tag_bytes c.args.plan.flags c.args.plan.left c.args.plan.tag in
    let First : List ℕ = piece c.args.block.now c.args.plan 0 c.args.plan.new_tag in
    let begin : At c.args.out.now 0 (First ++ (NewTag ++ (Middle ++ (NewOtc ++ Last)))) = writing_start c.args.out.now 0 (emitted c.args.block.now c.args.plan) (rw zero-add c.requires.1) in
    let after_first : At c.put_piece-tag.new.out c.put_piece-tag.result (NewTag ++ (Middle ++ (NewOtc ++ Last))) = writing_step begin c.put_piece-tag.ensures in
    let after_tag : At c.put_new_tag-middle.new.out c.put_new_tag-middle.result (Middle ++ (NewOtc ++ Last)) = writing_step after_first c.put_new_tag-middle.ensures in
    let after-middle : At c.put_piece-otc.new.out c.put_piece-otc.result (NewOtc ++ Last) = writing_step after_tag c.put_piece-otc.ensures in
    writing-room NewOtc Last after-middle

pub put_piece-requires : goal.put_piece-requires
unfolding emitted
put_piece-requires c =
    let Last : List ℕ = piece c.args.block.now c.args.plan c.args.plan.new_otc (length c.args.block.now) in
    let At : List ℕ → ℕ → List ℕ → Type 0 = λ out w rest. Writing c.args.out.now 0 (emitted c.args.block.now c.args.plan) out w rest in
    let NewOtc : List ℕ = new_otc_bytes c.args.plan.flags c.args.plan.otc in
    let Middle : List ℕ = piece c.args.block.now c.args.plan c.args.plan.new_tag c.args.plan.new_otc in
    let NewTag : List ℕ = new_tag_bytes c.args.plan.flags c.args.plan.left c.args.plan.tag in
    let First : List ℕ = piece c.args.block.now c.args.plan 0 c.args.plan.new_tag in
    let begin : At c.args.out.now 0 (First ++ (NewTag ++ (Middle ++ (NewOtc ++ Last)))) = writing_start c.args.out.now 0 (emitted c.args.block.now c.args.plan) (rw zero-add c.requires.1) in
    let after_first : At c.put_piece-tag.new.out c.put_piece-tag.result (NewTag ++ (Middle ++ (NewOtc ++ Last))) = writing_step begin c.put_piece-tag.ensures in
    let after_tag : At c.put_new_tag-middle.new.out c.put_new_tag-middle.result (Middle ++ (NewOtc ++ Last)) = writing_step after_first c.put_new_tag-middle.ensures in
    let after-middle : At c.put_piece-otc.new.out c.put_piece-otc.result (NewOtc ++ Last) = writing_step after_tag c.put_piece-otc.ensures in
    let after-otc : At c.put_new_otc-last.new.out c.put_new_otc-last.result Last = writing_step after-middle c.put_new_otc-last.ensures in
    let k = c.requires.0 in
    (k, k.otc_place, le_refl _, inr k.to, writing_last_room after-otc)

pub returns : goal.returns
unfolding emitted
returns c =
    let Last : List ℕ = piece c.args.block.now c.args.plan c.args.plan.new_otc (length c.args.block.now) in
    let At : List ℕ → ℕ → List ℕ → Type 0 = λ out w rest. Writing c.args.out.now 0 (emitted c.args.block.now c.args.plan) out w rest in
    let NewOtc : List ℕ = new_otc_bytes c.args.plan.flags c.args.plan.otc in
    let Middle : List ℕ = piece c.args.block.now c.args.plan c.args.plan.new_tag c.args.plan.new_otc in
    let NewTag : List ℕ = new_tag_bytes c.args.plan.flags c.args.plan.left c.args.plan.tag in
    let First : List ℕ = piece c.args.block.now c.args.plan 0 c.args.plan.new_tag in
    let begin : At c.args.out.now 0 (First ++ (NewTag ++ (Middle ++ (NewOtc ++ Last)))) = writing_start c.args.out.now 0 (emitted c.args.block.now c.args.plan) (rw zero-add c.requires.1) in
    let after_first : At c.put_piece-tag.new.out c.put_piece-tag.result (NewTag ++ (Middle ++ (NewOtc ++ Last))) = writing_step begin c.put_piece-tag.ensures in
    let after_tag : At c.put_new_tag-middle.new.out c.put_new_tag-middle.result (Middle ++ (NewOtc ++ Last)) = writing_step after_first c.put_new_tag-middle.ensures in
    let after-middle : At c.put_piece-otc.new.out c.put_piece-otc.result (NewOtc ++ Last) = writing_step after_tag c.put_piece-otc.ensures in
    let after-otc : At c.put_new_otc-last.new.out c.put_new_otc-last.result Last = writing_step after-middle c.put_new_otc-last.ensures in
    writing_last after-otc c.put_piece.ensures
