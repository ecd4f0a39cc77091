-- What is decided of a block by what the code finds in turn: the settings, the size, the fault, the rule. One law for receipt and sending
-- alike. And what storing tells, and what a call leaves by it.
use mathlib.Core.Path.{◌≡◌, refl, sym, ap, ◌∙◌, subst}
use mathlib.Core.Bool.{Bool, true, false}
use mathlib.Core.List.{List, ◌++◌}
use mathlib.Core.Option as maths
use Rattle.std.specs.Prelude.{Option, Some, None, Result, Ok, Err}
use Rattle.std.specs.Option.{ok_or}
use native.Mathlib.Omega.{arith}
use Prim.Native.Nat.{ℕ}
use lib.Dec.{leb}
use lib.ListN.{length}
use borrow.Author.Tests.{leb-true, leb-false}
use Rattle.rules.specs.Answers.{Answer, done, refused, Check, answer, order, sized, stored}
use Rattle.rules.specs.Settings.{block_max}
use Rattle.rules.specs.Attributes.{Attribute, fault}
use Rattle.rules.specs.Changes.{rewritten, block_checks, fitted, Leaves}
use Rattle.rules.specs.declared.Refusal.{Refusal}
use Rattle.rules.specs.declared.Refusal.TheVariants.{Malformed, BadSetting, BadLength, NoRoom}
use Rattle.rules.proofs.Answers.{answer-decided, answer-passed, answer_says, answer-done}
use Rattle.rules.proofs.Checked.{Late, checked_setting, checked_length, checked_fault, checked_passed}
use Rattle.attributes.specs.Layout.{reading}
use Rattle.attributes.specs.declared.layout.Layout.{Layout}
use Rattle.attributes.proofs.Found.{fault-read}
use Rattle.rewriting.specs.Plan.{ReadBlock}
use Rattle.rewriting.specs.declared.plan.Written.{Written}
use Rattle.rewriting.specs.Stores.{told_output}
use Rattle.verdicts.specs.Judge.{ruled, judged}

-- By the same test, flags, tag and OTC the same is made of a block.
pub rewritten-same : (l : List Attribute) {dropped test : List ℕ → Bool} {f g : ℕ} {tag state otc asn : maths.Option ℕ}
    → test ≡ dropped → f ≡ g → tag ≡ state → otc ≡ asn → rewritten test f tag otc l ≡ rewritten dropped g state asn l
rewritten-same l d p q r = rw (d, p, q, r) refl

module _ (ok : Bool) (b : List ℕ) (rules : List Check) (late : Late rules) (m : List Attribute) where
  abbrev verdict : Answer (List Attribute)
  verdict = answer order (block_checks ok b ++ rules) m

  pub decided_setting : ok ≡ false → verdict ≡ refused BadSetting
  decided_setting e = checked_setting b rules late m e

  module _ (e : ok ≡ true) where
    pub decided-length : leb (length b) block_max ≡ false → verdict ≡ refused BadLength
    decided-length h = checked_length b rules late m e (leb-false (length b) block_max h)

    pub decided-fault : leb (length b) block_max ≡ true → {r : Result Layout Refusal} {f : Refusal} → r ≡ reading b → r ≡ Err f
        → (f ≡ Malformed (fault b)) × (verdict ≡ refused f)
    decided-fault h p q =
        let k = fault-read b p q in
        (k.1, checked_fault b rules late m e (leb-true (length b) block_max h) k.0 refl ∙ ap refused (sym k.1))

    by-rules : {l : Layout} → ReadBlock b l → verdict ≡ answer order rules m
    by-rules w = checked_passed b rules late m e w.small w.clean

    module _ {l : Layout} (w : ReadBlock b l) (refusal : ℕ → Refusal) {k : Option ℕ} (a : judged rules ≡ ruled refusal k) where
      -- A rule applies.
      pub decided_rule : {n : ℕ} → k ≡ Some n → verdict ≡ refused (refusal n)
      decided_rule {n} q =
          let d = answer_says order rules 0 (refusal n) (a ∙ told) in
          by-rules w ∙ answer-decided order m d.0 d.1
        where
          told : ruled refusal k ≡ refused (refusal n)
          told = unfold ruled in rw q refl

      -- None does, and what is made is the result.
      pub decided-passed : k ≡ None → {made : List Attribute} → made ≡ m → verdict ≡ done made
      decided-passed z e =
          let d = answer-done order rules 0 0 (a ∙ none) in
          by-rules w ∙ answer-passed order rules m d.1 ∙ ap done (sym e)
        where
          none : ruled refusal k ≡ done 0
          none = unfold ruled in rw z refl

-- What a call leaves by what is decided: a refusal nothing.
pub leaves-refused : {decided : Answer (List Attribute)} (before : List ℕ) {r : Refusal} → decided ≡ refused r → Leaves decided before (refused r) before
unfolding fitted sized stored
leaves-refused before e = rw e (record { answered = refl; buffer = refl })

pub leaves-made : {decided : Answer (List Attribute)} {made : List Attribute} → decided ≡ done made → {before : List ℕ} {told : Answer ℕ} {after : List ℕ}
    → Leaves (done made) before told after → Leaves decided before told after
leaves-made e {before} {told} {after} p = subst (λ (x : Answer (List Attribute)). Leaves x before told after) (sym e) p

-- What storing tells, by whether there was room.
module _ {o : Option Written} {r : Result Written Refusal} (p : r ≡ ok_or o NoRoom) where
  pub room-found : {w : Written} → r ≡ Ok w → o ≡ Some w
  room-found {w} q = go o (sym q ∙ p)
    where
      go : (o : Option Written) → Ok w ≡ ok_or o NoRoom → o ≡ Some w
      go None e = let n : ◌≡◌ {A = ℕ} 0 1 = cc in absurd (omega arith)
      go (Some x) e = cc

  pub room-missing : {e : Refusal} → r ≡ Err e → (o ≡ None) × (e ≡ NoRoom)
  room-missing {e} q = go o (sym q ∙ p)
    where
      go : (o : Option Written) → Err e ≡ ok_or o NoRoom → (o ≡ None) × (e ≡ NoRoom)
      go None z = (refl, cc)
      go (Some x) z = let n : ◌≡◌ {A = ℕ} 0 1 = cc in absurd (omega arith)

-- What it leaves, by the same.
module _ {made : List Attribute} {before : List ℕ} {o : Option Written} {after : List ℕ} (p : Leaves (done made) before (told_output o) after) where
  pub room-kept : {w : Written} → o ≡ Some w → Leaves (done made) before (done w.length) after
  unfolding told_output
  room-kept q = rw q at p

  pub room-full : o ≡ None → Leaves (done made) before (refused NoRoom) after
  unfolding told_output
  room-full q = rw q at p
