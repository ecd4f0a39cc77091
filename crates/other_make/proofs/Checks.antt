-- What the check of another make answers by what sending decides of a readable block.
use mathlib.Core.Path.{◌≡◌, refl, sym, ap, ◌∙◌}
use mathlib.Core.Bool.{Bool, true, false, cond, ◌&&◌, true≢false}
use mathlib.Core.List.{List}
use Prim.Native.Nat.{ℕ, ◌≤◌}
use lib.Dec.{leb}
use lib.ListN.{length}
use borrow.Author.Tests.{leb-true, leb-false}
use Rattle.std.specs.Prelude.{Option, Some, None}
use Rattle.std.specs.Option.{is_some}
use Rattle.rules.specs.Answers.{Answer, done, refused, number}
use Rattle.rules.specs.Settings.{block_max}
use Rattle.rules.specs.Attributes.{Attribute, attributes, encode, readable}
use Rattle.rules.specs.Sending.{sending_verdict, measured, send_size}
use Rattle.rules.specs.OtherMake.{same_attributes, yes, no, allowed}
use Rattle.rules.specs.declared.Refusal.{Refusal}
use Rattle.rules.specs.declared.Refusal.TheVariants.{NoRoom}
use Rattle.rules.specs.declared.Session.{Session}
use Rattle.rules.proofs.Agreeing.{measured-done, measured-long, measured-refused}
use Rattle.rules.proofs.Allowing.{made-good, allowed-refused, allowed-compared}
use Rattle.other_make.specs.Finding.{comparison}

-- Whether there is a rule, and which.
pub some_of : (rule : Option ℕ) → is_some rule ≡ true → (n : ℕ) × (rule ≡ Some n)
some_of None e = absurd (true≢false (sym e))
some_of (Some n) e = (n, refl)

pub none_of : (rule : Option ℕ) → is_some rule ≡ false → rule ≡ None
none_of None e = refl
none_of (Some n) e = absurd (true≢false e)

module _ (s : Session) (source state : ℕ) (b : List ℕ) where
  pub sized-refused : {r : Refusal} → sending_verdict s source state b ≡ refused r → send_size s source state b ≡ refused r
  unfolding send_size
  sized-refused e = sym (measured-refused e)

  pub allowed-made : (sent : List ℕ) → length sent ≤ block_max → {m : List Attribute} → sending_verdict s source state b ≡ done m → comparison m sent ≡ allowed s source state b sent
  unfolding comparison
  allowed-made sent h {m} e = go (leb (length (encode m)) block_max) refl
    where
      sized : {a : Answer ℕ} → measured (done m) ≡ a → send_size s source state b ≡ a
      sized q = unfold send_size in (ap measured e ∙ q)

      go : (x : Bool) → leb (length (encode m)) block_max ≡ x
          → cond x (done (cond (readable sent && same_attributes m (attributes sent)) yes no)) (refused NoRoom) ≡ allowed s source state b sent
      go true q =
          sym (allowed-compared s source state b sent h (sized (measured-done m (leb-true (length (encode m)) block_max q))) ∙ rw (made-good s source state b e).0 refl)
      go false q =
          sym (allowed-refused s source state b sent h (sized (measured-long m (leb-false (length (encode m)) block_max q))) (unfold number in refl))
