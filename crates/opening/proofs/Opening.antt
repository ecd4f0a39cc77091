-- How the parameters and the capabilities of an OPEN read from their front, and how the roles met are judged.
use Prim.Native.Nat.{ℕ, ◌+◌, ◌-◌, ◌≤◌, ◌<◌}
use mathlib.Core.Path.{◌≡◌, refl, sym, ap, ◌∙◌}
use mathlib.Core.Bool.{Bool, true, false, cond, not, ◌&&◌, ◌||◌}
use mathlib.Core.List.{List, [], ◌∷◌, ◌++◌, foldl, map, map-append, flat_map}
use native.Mathlib.Omega.{arith}
use lib.Dec.{eqb}
use lib.ListN.{length, take, drop, get_or}
use lib.Seq.{get_or-take}
use borrow.Author.Tests.{ne_eqb}
use Rattle.rules.specs.Bytes.{is_empty, every, keep}
use Rattle.rules.specs.Rows.{with_item, chop, chop_up_to, whole, tlv}
use Rattle.rules.specs.Roles.{capabilities, capability_ok, is_role, parameter_ok, parameters_ok, roles_in, counterpart, disagree}
use Rattle.rules.proofs.Lists.{nil_of_length, is_empty_not, keep_append}
use Rattle.rules.proofs.Rows.{fit_none, fit-some, chop_stop, chop-step}
use Rattle.octets.proofs.Slices.{part-is, tail_is, item-value}
use Rattle.opening.specs.Open.{noted, capabilities_ok, capability_roles, found, seen_disagree}
use Rattle.opening.specs.declared.Seen.{Seen}
use Rattle.opening.specs.declared.Seen.TheVariants.{Absent, One, Unequal}
use Rattle.std.specs.Prelude.{Option, Some, None}

-- No byte: nothing is malformed, and there is no role.
nothing : (capabilities_ok [] ≡ true) × (capability_roles [] ≡ []) × (parameters_ok [] ≡ true) × (roles_in [] ≡ [])
unfolding capabilities_ok capability_roles parameters_ok roles_in whole is_empty every keep chop chop_up_to flat_map
nothing = (refl, refl, refl, refl)

module _ (s : List ℕ) where
  -- An item that overruns the bytes.
  over : 0 < length s → length s < 2 + get_or s 1 0 → whole (chop tlv s) ≡ false
  unfolding whole tlv
  over p h = rw (chop_stop tlv s (fit_none tlv s h)) (is_empty_not s p)

  module _ {n : ℕ} (q : n ≡ get_or s 1 0) (h : 2 + n ≤ length s) where
    -- An item, and then the rest.
    one_more : chop tlv s ≡ with_item (take (2 + n) s) (chop tlv (drop (2 + n) s))
    unfolding tlv
    one_more = chop-step tlv s (ap (λ (k : ℕ). 2 + k) q ∙ sym (fit-some tlv s (omega arith))) (omega arith)

    parameters_ok_lem : parameters_ok s ≡ (eqb (get_or s 0 0) 2 && (capabilities_ok (take n (drop 2 s)) && parameters_ok (drop (2 + n) s)))
    unfolding parameters_ok parameter_ok capabilities capabilities_ok whole every with_item
    parameters_ok_lem =
        rw (one_more, get_or-take (2 + n) s 0 0 (omega arith), item-value s 2 n refl h)
        (swap (is_empty (chop tlv (drop (2 + n) s)).left) (eqb (get_or s 0 0) 2) (is_empty (chop tlv (take n (drop 2 s))).left) (every capability_ok (chop tlv (take n (drop 2 s))).items) (every parameter_ok (chop tlv (drop (2 + n) s)).items))
      where
        swap : (x a p q z : Bool) → x && (a && p && q && z) ≡ a && (p && q && (x && z))
        swap true true true q z = refl
        swap true true false q z = refl
        swap true false p q z = refl
        swap false true true true z = refl
        swap false true true false z = refl
        swap false true false q z = refl
        swap false false p q z = refl

    parameters_roles : roles_in s ≡ capability_roles (take n (drop 2 s)) ++ roles_in (drop (2 + n) s)
    unfolding roles_in capability_roles capabilities flat_map with_item
    parameters_roles =
        rw (one_more, item-value s 2 n refl h, keep_append is_role (chop tlv (take n (drop 2 s))).items (flat_map (λ p. (chop tlv (drop 2 p)).items) (chop tlv (drop (2 + n) s)).items))
        (map-append (λ c. get_or c 2 0) (keep is_role (chop tlv (take n (drop 2 s))).items) (keep is_role (flat_map (λ p. (chop tlv (drop 2 p)).items) (chop tlv (drop (2 + n) s)).items)))

    capabilities_ok_lem : capabilities_ok s ≡ ((not (eqb (get_or s 0 0) 9) || eqb n 1) && capabilities_ok (drop (2 + n) s))
    unfolding capabilities_ok whole every capability_ok is_role with_item
    capabilities_ok_lem =
        rw (one_more, get_or-take (2 + n) s 0 0 (omega arith), get_or-take (2 + n) s 1 0 (omega arith), ← q)
        (swap (is_empty (chop tlv (drop (2 + n) s)).left) (not (eqb (get_or s 0 0) 9) || eqb n 1) (every capability_ok (chop tlv (drop (2 + n) s)).items))
      where
        swap : (x y z : Bool) → x && (y && z) ≡ y && (x && z)
        swap true y z = refl
        swap false true z = refl
        swap false false z = refl

    capabilities-roles : capability_roles s
        ≡ cond (eqb (get_or s 0 0) 9) (get_or (take (2 + n) s) 2 0 ∷ capability_roles (drop (2 + n) s)) (capability_roles (drop (2 + n) s))
    unfolding capability_roles is_role keep with_item
    capabilities-roles = rw (one_more, get_or-take (2 + n) s 0 0 (omega arith)) (go (eqb (get_or s 0 0) 9))
      where
        go : (x : Bool) → map (λ r. get_or r 2 0) (cond x (take (2 + n) s ∷ keep is_role (chop tlv (drop (2 + n) s)).items) (keep is_role (chop tlv (drop (2 + n) s)).items))
            ≡ cond x (get_or (take (2 + n) s) 2 0 ∷ map (λ r. get_or r 2 0) (keep is_role (chop tlv (drop (2 + n) s)).items)) (map (λ r. get_or r 2 0) (keep is_role (chop tlv (drop (2 + n) s)).items))
        go true = refl
        go false = refl

-- ---- The parameters' reader

malformed : (seen : Seen) (roles : List ℕ) {ok : Bool} → ok ≡ false → None ≡ found ok seen roles
unfolding found
malformed seen roles e = rw e refl

module _ (s : List ℕ) (seen : Seen) where
  pub parameters_end : length s ≡ 0 → Some seen ≡ found (parameters_ok s) seen (roles_in s)
  unfolding found
  parameters_end e = rw (nil_of_length s e, nothing.2, nothing.3) refl

  pub parameters_over : 0 < length s → length s < 2 + get_or s 1 0 → None ≡ found (parameters_ok s) seen (roles_in s)
  unfolding parameters_ok
  parameters_over p h = malformed seen (roles_in s) (rw (over s p h) refl)

  module _ {n : ℕ} (q : n ≡ get_or s 1 0) (h : 2 + n ≤ length s) where
    -- Capabilities, read in what `&s[2..2 + n]` lends, and then the parameters that `&s[2 + n..]` lends.
    pub parameters_step : get_or s 0 0 ≡ 2 → {r : Option Seen}
        → let value = take (2 + n - 2) (drop 2 s) in
        let after = take (length s - (2 + n)) (drop (2 + n) s) in
        r ≡ found (capabilities_ok value && parameters_ok after) seen (capability_roles value ++ roles_in after) → r ≡ found (parameters_ok s) seen (roles_in s)
    parameters_step e p = p ∙ sym (rw (part-is s 2 n, tail_is s (2 + n), parameters_ok_lem s q h, parameters_roles s q h, e) refl)

    -- Another type.
    pub parameters_type : (get_or s 0 0 ≡ 2 → ⊥) → None ≡ found (parameters_ok s) seen (roles_in s)
    parameters_type e = malformed seen (roles_in s) (rw (parameters_ok_lem s q h, ne_eqb (get_or s 0 0) 2 e) refl)

-- ---- The capabilities' reader

module _ (s after : List ℕ) (seen : Seen) where
  pub capabilities-end : length s ≡ 0
      → found (parameters_ok after) seen (roles_in after) ≡ found (capabilities_ok s && parameters_ok after) seen (capability_roles s ++ roles_in after)
  capabilities-end e = rw (nil_of_length s e, nothing.0, nothing.1) refl

  pub capabilities-over : 0 < length s → length s < 2 + get_or s 1 0
      → None ≡ found (capabilities_ok s && parameters_ok after) seen (capability_roles s ++ roles_in after)
  unfolding capabilities_ok
  capabilities-over p h = malformed seen (capability_roles s ++ roles_in after) (rw (over s p h) refl)

  module _ {n : ℕ} (q : n ≡ get_or s 1 0) (h : 2 + n ≤ length s) where
    pub capabilities-other : (get_or s 0 0 ≡ 9 → ⊥)
        → found (capabilities_ok (drop (2 + n) s) && parameters_ok after) seen (capability_roles (drop (2 + n) s) ++ roles_in after)
        ≡ found (capabilities_ok s && parameters_ok after) seen (capability_roles s ++ roles_in after)
    capabilities-other e = sym (rw (capabilities_ok_lem s q h, capabilities-roles s q h, ne_eqb (get_or s 0 0) 9 e) refl)

    module _ (e : get_or s 0 0 ≡ 9) where
      pub capabilities-long : (n ≡ 1 → ⊥) → None ≡ found (capabilities_ok s && parameters_ok after) seen (capability_roles s ++ roles_in after)
      capabilities-long k = malformed seen (capability_roles s ++ roles_in after) (rw (capabilities_ok_lem s q h, e, ne_eqb n 1 k) refl)

      pub capabilities-role : n ≡ 1
          → found (capabilities_ok (drop 3 s) && parameters_ok after) (noted seen (get_or s 2 0)) (capability_roles (drop 3 s) ++ roles_in after)
          ≡ found (capabilities_ok s && parameters_ok after) seen (capability_roles s ++ roles_in after)
      unfolding found
      capabilities-role k = sym (rw (capabilities_ok_lem s q h, capabilities-roles s q h, e, k, get_or-take 3 s 2 0 (omega arith)) refl)

-- ---- The roles met

-- Equal roles count as one, and unequal ones stay unequal.
unequal_stays : (roles : List ℕ) → foldl noted Unequal roles ≡ Unequal
unequal_stays [] = refl
unequal_stays (r ∷ roles) = unequal_stays roles

one_or_unequal : (r : ℕ) (roles : List ℕ) → foldl noted (One r) roles ≡ cond (every (eqb r) roles) (One r) Unequal
unfolding every
one_or_unequal r [] = refl
one_or_unequal r (x ∷ roles) = go (eqb r x) (one_or_unequal r roles)
  where
    go : (y : Bool) → foldl noted (One r) roles ≡ cond (every (eqb r) roles) (One r) Unequal
        → foldl noted (cond y (One r) Unequal) roles ≡ cond (y && every (eqb r) roles) (One r) Unequal
    go true ih = ih
    go false ih = unequal_stays roles

pub roles-judged : (local strict : ℕ) (roles : List ℕ) → seen_disagree local strict (foldl noted Absent roles) ≡ disagree local strict roles
unfolding disagree
roles-judged local strict [] = refl
roles-judged local strict (r ∷ roles) = rw (one_or_unequal r roles) (go (every (eqb r) roles))
  where
    go : (y : Bool) → seen_disagree local strict (cond y (One r) Unequal) ≡ (not y || not (eqb r (counterpart local)))
    go true = refl
    go false = refl
