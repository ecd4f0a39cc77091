-- 02, Q-12, "Check the other make": "Given what our sending is handed (session, source, state, block …) and the block it sent, say whether that
-- is allowed".
use Rattle.std.specs.Prelude.{◌≡◌, ℕ, ◌-◌, ◌≤◌, Bool, true, cond, ◌&&◌, List, [], ◌∷◌, ◌++◌, leb, eqb, length, take, Result, Ok, Err}
use Rattle.rules.specs.Bytes.{every, exists, same_bytes}
use Rattle.rules.specs.Rows.{chop, whole}
use Rattle.rules.specs.Answers.{Answer, done, refused, number, answer, order, ◌when◌, refusals}
use Rattle.rules.specs.Settings.{block_max}
use Rattle.rules.specs.Attributes.{Attribute, attributes, attribute_size, encode, long, readable}
use Rattle.rules.specs.Changes.{too_long}
use Rattle.rules.specs.Receipt.{receipt_verdict}
use Rattle.rules.specs.Sending.{sending_result, send_size, Sent}
use Rattle.rules.specs.declared.Refusal.{Refusal}
use Rattle.rules.specs.declared.Refusal.TheVariants.{BadLength}
use Rattle.rules.specs.declared.Session.{Session}

-- Flags, "the long-length bit apart": 0x10, the Extended Length bit of RFC 4271 section 4.3.
unfoldable pub flags_apart : ℕ → ℕ
flags_apart flags = cond (long flags) (flags - 0x10) flags

-- "equal types, values and flags (the long-length bit apart)". The length bytes are not compared: "either length form".
unfoldable pub alike : Attribute → Attribute → Bool
alike a b = eqb a.type b.type && eqb (flags_apart a.flags) (flags_apart b.flags) && same_bytes a.value b.value

-- "its block has the same attributes as ours …, in any order": each one of ours among theirs, and no more of theirs than of ours. (No type comes
-- twice in a readable block.)
unfoldable pub same_attributes : List Attribute → List Attribute → Bool
same_attributes ours theirs = every (λ a. exists (alike a) theirs) ours && leb (length theirs) (length ours)

-- Yes and no are numbers beside answer 0.
abbrev pub yes : ℕ
yes = 1

abbrev pub no : ℕ
no = 0

-- "a route we would withhold and an unreadable sent block are each a no": answer 2 of sending becomes a no.
unfoldable pub withheld_is_no : Answer ℕ → Answer ℕ
withheld_is_no (done n) = done n
withheld_is_no (refused r) = cond (eqb (number r) 2) (done no) (refused r)

-- "Refusals, ahead of yes or no: 5, 6 for either block, 3 for the block handed in, and 7 where our own result exceeds 4,073": those of the first
-- call of sending, which has no buffer, and 6 for the block sent.
unfoldable pub allowed : Session → ℕ → ℕ → List ℕ → List ℕ → Answer ℕ
allowed s source state b sent =
    withheld_is_no
    (answer order
    (BadLength when too_long sent ∷ refusals (send_size s source state b))
    (cond (readable sent && same_attributes (sending_result s source state (attributes b)) (attributes sent)) yes no))

-- The answer that the code's result stands for.
unfoldable pub told_sent_check : Result Bool Refusal → Answer ℕ
told_sent_check (Ok allows) = done (cond allows yes no)
told_sent_check (Err r) = refused r

-- ---- What is proved of it

-- One attribute in either length form: the long-length bit and the length bytes may differ, and nothing else.
pub record EitherForm (a b : Attribute) : Type 0 where
  pub type : a.type ≡ b.type
  pub flags : flags_apart a.flags ≡ flags_apart b.flags
  pub value : a.value ≡ b.value

-- "in any order and either length form": each of ours in turn is taken out of theirs, wherever it stands, and nothing is left.
pub data Reordered : List Attribute → List Attribute → Type 0 where
  none : Reordered [] []
  taken : {a b : Attribute} {ours theirs : List Attribute} (before after : List Attribute) → EitherForm a b → theirs ≡ before ++ (b ∷ after)
      → Reordered ours (before ++ after) → Reordered (a ∷ ours) theirs

-- A block that conforms: our sending answers 0, and the block is not too long, has no overrun, and has our attributes in any order and either
-- length form. That it is readable follows.
pub record Conforms (s : Session) (source state : ℕ) (b sent : List ℕ) : Type 0 where
  pub size : ℕ
  pub answered : send_size s source state b ≡ done size
  pub short : length sent ≤ block_max
  pub ends : whole (chop attribute_size sent) ≡ true
  pub same : Reordered (sending_result s source state (attributes b)) (attributes sent)

-- "Yes exactly then."
abbrev pub YesExactly : Type 0
YesExactly =
    (s : Session) (source state : ℕ) (b sent : List ℕ) →
    (allowed s source state b sent ≡ done yes → Conforms s source state b sent) × (Conforms s source state b sent → allowed s source state b sent ≡ done yes)

-- "What our own sending writes for the same input is always allowed", by its promise alone.
abbrev pub OwnAllowed : Type 0
OwnAllowed =
    (s : Session) (source state n : ℕ) (b before after : List ℕ) → Sent s source state b before (done n) after →
    allowed s source state b (take n after) ≡ done yes

-- Beyond 02: receipt decides of an allowed block what it decides of ours, by the same refusal or by none. (Answer 7 is not decided here: it is by
-- the buffer.)
abbrev pub ReceivedAlike : Type 0
ReceivedAlike =
    (s receiver : Session) (source state : ℕ) (b sent : List ℕ) → allowed s source state b sent ≡ done yes →
    refusals (receipt_verdict receiver sent) ≡ refusals (receipt_verdict receiver (encode (sending_result s source state (attributes b))))
