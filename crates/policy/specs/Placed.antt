-- What the internal form of receipt hands on: its answer as receipt's, and where the AS_PATH of a block that was taken stands. And the AS that
-- an OTC names, by its place.
use Rattle.std.specs.Prelude.{◌≡◌, true, cond, List, ℕ, eqb, ltb, length, Option, Some, None, Result, Ok, Err}
use Rattle.rules.specs.Bytes.{big_endian}
use Rattle.rules.specs.Answers.{told_received, thrown_received, state_received}
use Rattle.rules.specs.Attributes.{attributes, readable}
use Rattle.rules.specs.Receipt.{GotNumbered}
use Rattle.rules.specs.declared.Received.{Received}
use Rattle.rules.specs.declared.Declined.{Declined}
use Rattle.rules.specs.declared.Session.{Session}
use Rattle.attributes.specs.Layout.{layout, value_at}
use Rattle.policy.specs.declared.placed.Placed.{Placed}

-- The AS that the OTC at a place of a block names; none where the place is the block's end.
unfoldable pub otc_at : ℕ → List ℕ → Option ℕ
otc_at place b =
    let v = value_at place b in
    cond (ltb place (length b)) (Some (cond (eqb (length v) 4) (big_endian v) 0)) None

-- The same answer without the place.
unfoldable pub taken : Result Placed Declined → Result Received Declined
taken (Ok p) = Ok (record { length = p.length; thrown_out = p.thrown_out; state = p.state })
taken (Err d) = Err d

-- The block is readable, and its AS_PATH stands there.
abbrev pub PathAt : List ℕ → Result Placed Declined → Type 0
PathAt b (Ok p) = (readable b ≡ true) × (p.as_path ≡ (layout (attributes b)).as_path)
PathAt b (Err d) = Unit {0}

pub record GotPlaced (s : Session) (b before : List ℕ) (r : Result Placed Declined) (after : List ℕ) : Type 0 where
  pub got : GotNumbered s b before (told_received (taken r)) (thrown_received (taken r)) (state_received (taken r)) after
  pub path : PathAt b r
