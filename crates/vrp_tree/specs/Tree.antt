-- The distinct leading parts of the prefixes of some VRPs, over the width w of a prefix in bits.
use Rattle.std.specs.Prelude.{ℕ, zero, suc, ◌+◌, ◌-◌, ◌/◌, ◌^◌, Bool, cond, ◌||◌, List, [], ◌∷◌, eqb, length}
use Rattle.rules.specs.declared.Words.{Words}
use Rattle.rules.specs.Origin.{Vrp, vrps, spelled}

-- The leading bits of a prefix handed over as words, as a number.
unfoldable pub leading_bits : Words → ℕ → ℕ
leading_bits p len = spelled p / 2 ^ (128 - len)

-- A leading part of m bits with the value q is the number 2 ^ m + q: the empty one is 1, and x with one bit b more is x * 2 + b.
-- The leading part of m bits of a prefix p of w bits:
abbrev pub part_of : ℕ → ℕ → ℕ → ℕ
part_of w p m = 2 ^ m + p / 2 ^ (w - m)

-- A VRP's own part: the leading part of its prefix up to its own length.
abbrev pub own : ℕ → Vrp → ℕ
own w v = part_of w v.prefix v.len

-- The number of x in a list whose newest element stands first, counted from 1 at the oldest; 0 where x is not in it.
unfoldable pub spot : List ℕ → ℕ → ℕ
spot [] x = 0
spot (y ∷ ks) x = cond (eqb y x) (suc (length ks)) (spot ks x)

-- A part is added if it is not there yet.
unfoldable pub added : List ℕ → ℕ → List ℕ
added ks x = cond (eqb (spot ks x) 0) (x ∷ ks) ks

-- The leading parts of the part x are x / 2 ^ left: those with fewer than the given number of bits left are added, the shortest first.
unfoldable pub grown : ℕ → ℕ → List ℕ → List ℕ
grown zero x ks = ks
grown (suc left) x ks = grown left x (added ks (x / 2 ^ left))

-- The distinct leading parts of the prefixes of some VRPs, each up to its own length; the empty one is there from the start.
unfoldable pub parts_of : ℕ → List Vrp → List ℕ
parts_of w [] = 1 ∷ []
parts_of w (v ∷ vs) = grown v.len (own w v) (parts_of w vs)

-- A list turned round, in front of another.
unfoldable pub turned : {A : Type 0} → List A → List A → List A
turned [] done = done
turned (x ∷ l) done = turned l (x ∷ done)

-- The records of a table, the newest first.
abbrev pub newest : ℕ → List ℕ → List Vrp
newest w table = turned (vrps w table) []

-- Whether x is a leading part of the part q, with at most `left` bits of q to go.
unfoldable pub on_of : ℕ → ℕ → ℕ → Bool
on_of x q zero = eqb x (q / 2 ^ 0)
on_of x q (suc left) = eqb x (q / 2 ^ suc left) || on_of x q left

-- How many leading parts of the part q, with at most `left` bits to go, are among the parts ks.
unfoldable pub met_of : List ℕ → ℕ → ℕ → ℕ
met_of ks q zero = cond (eqb (spot ks (q / 2 ^ 0)) 0) 0 1
met_of ks q (suc left) = cond (eqb (spot ks (q / 2 ^ suc left)) 0) 0 1 + met_of ks q left
