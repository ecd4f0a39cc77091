-- The best route so far, and what one candidate more makes of it.
use Rattle.std.specs.Prelude.{ℕ, ◌+◌, Bool, cond, ◌&&◌, ◌||◌, List, [], ◌∷◌, ltb, eqb, get_or, Option, Some, None}
use Rattle.rules.specs.Settings.{drop_invalid, prioritise, invalid}
use Rattle.rules.specs.Attributes.{attributes, has_otc}
use Rattle.rules.specs.Choice.{Candidate, before}
use Rattle.rules.specs.declared.Offer.{Offer}
use Rattle.choice.specs.declared.keys.Keys.{Keys}
use Rattle.choice.specs.declared.best.BestRoute.{BestRoute}
use Rattle.choice.specs.Keys.{keys_of, listed}

-- The removals that look at one candidate alone: "blocks with an OTC; routes from the client's own address; in mode 2, state 2"
unfoldable pub is_removed : ℕ → ℕ → Bool → ℕ → ℕ → Bool
is_removed mode client otc state address = otc || eqb address client || (eqb mode drop_invalid && eqb state invalid)

-- The class of a state in mode 3, and one class for all in the others.
unfoldable pub rank : ℕ → ℕ → ℕ
rank mode state = cond (eqb mode prioritise) (get_or (0 ∷ 1 ∷ 2 ∷ 1 ∷ []) state 2) 0

-- The route of this class, index and keys as the best of this many.
unfoldable pub with : ℕ → ℕ → ℕ → Keys → BestRoute
with left rank index keys = record { left = left; rank = rank; index = index; keys = keys }

-- A lower class takes the place of all before it; a higher one is passed by; within one the order decides, and a tie stays.
unfoldable pub met : BestRoute → ℕ → ℕ → Keys → BestRoute
met best rank index keys =
    cond (ltb best.rank rank) best
    (cond (ltb rank best.rank) (with 1 rank index keys)
    (cond (before (listed keys) (listed best.keys)) (with (best.left + 1) rank index keys) (with (best.left + 1) rank best.index best.keys)))

-- The first candidate that is met is the best.
unfoldable pub meets : Option BestRoute → ℕ → ℕ → Keys → Option BestRoute
meets None rank index keys = Some (with 1 rank index keys)
meets (Some best) rank index keys = Some (met best rank index keys)

-- How many are left.
unfoldable pub left_in : Option BestRoute → ℕ
left_in None = 0
left_in (Some best) = best.left

-- The candidate that an offer makes with this block.
abbrev pub offered : Offer → List ℕ → Candidate
offered o block = record { block = block; state = o.state; identifier = o.identifier; address = o.address }

-- One candidate more, of this index: removed, or met.
unfoldable pub taken : ℕ → ℕ → Option BestRoute → ℕ → Candidate → Option BestRoute
taken mode client best index c =
    cond (is_removed mode client (has_otc (attributes c.block)) c.state c.address) best
    (meets best (rank mode c.state) index (keys_of c))
