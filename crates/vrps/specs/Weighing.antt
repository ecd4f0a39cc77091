-- What one VRP is to a route. Over any width.
use Rattle.std.specs.Prelude.{ℕ, ◌≡◌, Bool, false, cond, ◌&&◌, List, leb}
use Rattle.std.proofs.Math.Option.{Option}
use Rattle.rules.specs.Origin.{Vrp, vrp, bad_vrp, covers, same_as, matches}
use Rattle.vrps.specs.declared.Weight.{Weight}
use Rattle.vrps.specs.declared.Weight.TheVariants.{Apart, Covers, Matches}

-- A record that is not bad.
abbrev pub Good : ℕ → List ℕ → Type 0
Good w bytes = bad_vrp w (vrp w bytes) ≡ false

-- A VRP that covers a route matches it where it allows the route's length and its origin.
abbrev pub allowed : Vrp → ℕ → Option ℕ → Bool
allowed v len origin = leb len v.most && same_as v.asn origin

-- What a VRP is to a route: it matches, it covers and does not match, or neither.
unfoldable pub weighed : ℕ → Vrp → ℕ → ℕ → Option ℕ → Weight
weighed w v prefix len origin = cond (matches w v prefix len origin) Matches (cond (covers w v prefix len) Covers Apart)
