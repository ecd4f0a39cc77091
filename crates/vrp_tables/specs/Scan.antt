-- The scan over a table of VRPs: the state that the records left will give. Over any width.
use Rattle.std.specs.Prelude.{ℕ, ◌≡◌, Bool, false, cond, ◌||◌, List}
use Rattle.std.proofs.Math.Option.{Option}
use Rattle.rules.specs.Bytes.{exists}
use Rattle.rules.specs.Settings.{valid, not_found, invalid}
use Rattle.rules.specs.Origin.{Vrp, vrps, bad_vrp, covers, matches}

-- A table with no bad VRP.
abbrev pub GoodTable : ℕ → List ℕ → Type 0
GoodTable w table = exists (bad_vrp w) (vrps w table) ≡ false

-- The state of a route by the VRPs left, where none before them matches, and `covered` says whether one of those covers.
unfoldable pub state_from : Bool → ℕ → List Vrp → ℕ → ℕ → Option ℕ → ℕ
state_from covered w l prefix len origin =
    cond (exists (λ v. matches w v prefix len origin) l) valid
    (cond (covered || exists (λ v. covers w v prefix len) l) invalid not_found)
