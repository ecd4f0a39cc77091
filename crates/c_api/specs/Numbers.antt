-- What receipt and sending, and the functions of an index, hand to a caller in C or Rust.
use Rattle.std.specs.Prelude.{ℕ, ◌≡◌, List}
use Rattle.std.proofs.Math.Option.{Option}
use Rattle.rules.specs.Answers.{Answer, answer_number, beside_number}
use Rattle.rules.specs.Attributes.{Attribute}
use Rattle.rules.specs.Changes.{Leaves}
use Rattle.rules.specs.Receipt.{GotNumbered, ReceiptNumbers}
use Rattle.rules.specs.Index.{Finding, LookUpNumbers}
use Rattle.rules.specs.declared.Session.{Session}

-- An answer as two numbers.
abbrev pub Numbered : Answer ℕ → ℕ → ℕ → Type 0
Numbered told number besides = (number ≡ answer_number told) × (besides ≡ beside_number told)

-- What the second call of sending promises, where `decided` is what the definition decides: the buffer and the answer as `Sent` of `rules` says them, and
-- that answer as two numbers.
pub record Reported (decided : Answer (List Attribute)) (before : List ℕ) (number besides : ℕ) (after : List ℕ) : Type 0 where
  pub told : Answer ℕ
  pub leaves : Leaves decided before told after
  pub numbers : Numbered told number besides

-- What receipt promises: the buffer, the answer, the number of tags thrown out and the state as `GotNumbered` of `rules` says them, and the
-- last three as four numbers.
pub record ReportedReceipt (s : Session) (b before : List ℕ) (number besides tags stated : ℕ) (after : List ℕ) : Type 0 where
  pub told : Answer ℕ
  pub thrown : Option ℕ
  pub state : Option ℕ
  pub got : GotNumbered s b before told thrown state after
  pub numbers : ReceiptNumbers told thrown state number besides tags stated

-- What a build and an insertion promise: their answer and the memory as `Builds` and `Inserts` of `rules` say them, and that answer as two
-- numbers.
pub record ReportedIndex (Promised : Answer ℕ → List ℕ → Type 0) (number besides : ℕ) (memory : List ℕ) : Type 0 where
  pub told : Answer ℕ
  pub promised : Promised told memory
  pub numbers : Numbered told number besides

-- What a look-up promises: its answer as `LooksUp` of `rules` says it, and that answer as three numbers.
pub record ReportedLookUp (Promised : Answer Finding → Type 0) (number besides visits : ℕ) : Type 0 where
  pub told : Answer Finding
  pub promised : Promised told
  pub numbers : LookUpNumbers told number besides visits
