-- The checks of a block, settings, size and fault, ahead of others that all go after them: what they answer, and that they say
-- nothing where none of them applies.
use mathlib.Core.Path.{◌≡◌, refl, ap, ◌∙◌}
use mathlib.Core.Bool.{Bool, true, false, false≢true}
use mathlib.Core.List.{List, ◌++◌}
use Prim.Native.Nat.{ℕ, ◌≤◌, ◌<◌}
use lib.ListN.{length}
use borrow.Author.Tests.{lt-ltb, le-ltb}
use Rattle.rules.specs.Bytes.{exists, one_of}
use Rattle.rules.specs.Answers.{refused, Check, number, order, answer}
use Rattle.rules.specs.Settings.{block_max}
use Rattle.rules.specs.Attributes.{fault, readable}
use Rattle.rules.specs.Changes.{block_checks}
use Rattle.rules.specs.declared.Refusal.TheVariants.{Malformed, BadSetting, BadLength}
use Rattle.rules.proofs.Answers.{here, past, earlier, After, passed-after, answer-decided, answer-past}

-- Checks that all go after settings, size and fault.
abbrev pub Late : List Check → Type 0
Late rules = After order 5 rules × After order 6 rules × After order 3 rules

module _ {A : Type 0} {ok : Bool} (b : List ℕ) (rules : List Check) (late : Late rules) (x : A) where
  pub checked_setting : ok ≡ false → answer order (block_checks ok b ++ rules) x ≡ refused BadSetting
  unfolding block_checks order number one_of exists earlier
  checked_setting e =
      answer-decided order x refl
      (here refl (rw e refl) (λ u. absurd (false≢true u), (λ u. absurd (false≢true u), passed-after order 5 rules late.0)))

  module _ (e : ok ≡ true) where
    pub checked_length : block_max < length b → answer order (block_checks ok b ++ rules) x ≡ refused BadLength
    unfolding block_checks order number one_of exists earlier
    checked_length h =
        answer-decided order x refl
        (past (λ u. rw e refl) (here refl (lt-ltb block_max (length b) h) (λ u. absurd (false≢true u), passed-after order 6 rules late.1)))

    module _ (h : length b ≤ block_max) where
      pub checked_fault : {f : ℕ} → readable b ≡ false → fault b ≡ f → answer order (block_checks ok b ++ rules) x ≡ refused (Malformed f)
      unfolding block_checks readable order number one_of exists earlier
      checked_fault z q =
          answer-decided order x refl
          (past (λ u. rw e refl) (past (λ u. le-ltb block_max (length b) h) (here (ap (λ (n : ℕ). Malformed n) q) (rw z refl) (passed-after order 3 rules late.2))))

      pub checked_passed : readable b ≡ true → answer order (block_checks ok b ++ rules) x ≡ answer order rules x
      unfolding block_checks readable
      checked_passed z =
          rw (e, le-ltb block_max (length b) h, z)
          (answer-past order BadSetting _ x ∙ answer-past order BadLength _ x ∙ answer-past order (Malformed (fault b)) rules x)
