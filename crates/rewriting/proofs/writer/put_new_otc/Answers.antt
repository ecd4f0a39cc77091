-- `put_new_otc` meets its contract: no bytes, or a header and four bytes, stored one after the other.
use mathlib.Core.Path.{◌≡◌}
use mathlib.Core.List.{List, [], ◌∷◌, ◌++◌}
use Prim.Native.Nat.{ℕ, ◌+◌, ◌≤◌}
use lib.ListN.{length}
use Rattle.std.specs.Prelude.{Option, Some}
use Rattle.rules.specs.Bytes.{bytes4}
use Rattle.octets.proofs.Writing.{Writing, writing_start, writing-rest, writing_step, writing_last, writing-room, writing_last_room, stored-none}
use Rattle.rewriting.specs.Plan.{new_otc_bytes}
use Rattle.rewriting.proofs.Pieces.{new_otc-none, new_otc-is}
use Rattle.rewriting.proofs.writer.put_new_otc.Goals as goal

-- The header and the AS are still to come.
begun : (flags : ℕ) {n : ℕ} {asn : Option ℕ} (out : List ℕ) (at : ℕ) → at + length (new_otc_bytes flags asn) ≤ length out → asn ≡ Some n
    → Writing out at (new_otc_bytes flags asn) out at ((flags ∷ 35 ∷ 4 ∷ []) ++ bytes4 n)
begun flags {n} {asn} out at room e = writing-rest (writing_start out at (new_otc_bytes flags asn) room) (new_otc-is flags e)

pub returns-in_default : goal.returns-in_default
returns-in_default c = stored-none _ _ (new_otc-none c.args.flags c.in_default.is)

pub put-value-requires : goal.put-value-requires
put-value-requires c = let a = c.args in
    writing-room (a.flags ∷ 35 ∷ 4 ∷ []) (bytes4 c.in-Some.asn) (begun a.flags a.out.now a.at c.requires c.in-Some.is)

pub put_number4-requires : goal.put_number4-requires
unfolding bytes4
put_number4-requires c = let a = c.args in
    writing_last_room (writing_step (begun a.flags a.out.now a.at c.requires c.in-Some.is) c.put-value.ensures)

pub returns : goal.returns
returns c = let a = c.args in
    writing_last (writing_step (begun a.flags a.out.now a.at c.requires c.in-Some.is) c.put-value.ensures) c.put_number4.ensures
