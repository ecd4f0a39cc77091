-- What the two readers of an OPEN's parameters keep and find. Internal: `open_session` of `rules` says what opening promises.
use Rattle.std.specs.Prelude.{ℕ, Bool, true, not, cond, ◌&&◌, eqb, get_or, Option, Some, None}
use mathlib.Core.List.{List, ◌++◌, foldl, map}
use Rattle.rules.specs.Bytes.{every, keep}
use Rattle.rules.specs.Rows.{chop, whole, tlv}
use Rattle.rules.specs.Roles.{capability_ok, is_role, parameters_ok, roles_in, counterpart}
use Rattle.opening.specs.declared.Seen.{Seen}
use Rattle.opening.specs.declared.Seen.TheVariants.{Absent, One, Unequal}

-- A role beside what was met before.
abbrev pub noted : Seen → ℕ → Seen
noted Absent role = One role
noted (One first) role = cond (eqb first role) (One first) Unequal
noted Unequal role = Unequal

-- The capabilities of one parameter: that they are well formed, and the roles among them.
unfoldable pub capabilities_ok : List ℕ → Bool
capabilities_ok c = whole (chop tlv c) && every capability_ok (chop tlv c).items

unfoldable pub capability_roles : List ℕ → List ℕ
capability_roles c = map (λ q. get_or q 2 0) (keep is_role (chop tlv c).items)

-- What reading finds: none where the parameters are malformed, else these roles beside what was met before.
unfoldable pub found : Bool → Seen → List ℕ → Option Seen
found ok seen roles = cond ok (Some (foldl noted seen roles)) None

-- What reading the capabilities of a parameter and the parameters after it finds.
abbrev pub found_in : List ℕ → List ℕ → Seen → Option Seen
found_in c after seen = found (capabilities_ok c && parameters_ok after) seen (capability_roles c ++ roles_in after)

-- `disagree` of `rules`, by what was met.
abbrev pub seen_disagree : ℕ → ℕ → Seen → Bool
seen_disagree local strict Absent = not (eqb strict 0)
seen_disagree local strict (One role) = not (eqb role (counterpart local))
seen_disagree local strict Unequal = true
