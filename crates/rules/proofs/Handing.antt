-- The state that receipt hands on (02, Q-11): "with byte 0 always 3", and with byte 1 the one that the tag reader tells of the block received.
use mathlib.Core.Path.{◌≡◌, refl, ap}
use mathlib.Core.Bool.{Bool, true, false, not, cond, ◌&&◌}
use mathlib.Core.List.{List, [], ◌∷◌, map}
use Prim.Native.Nat.{ℕ}
use lib.Dec.{leb, ltb}
use lib.ListN.{get_or}
use borrow.Author.Tests.{ltb-true, lt-leb}
use Rattle.rules.specs.Bytes.{keep}
use Rattle.rules.specs.Settings.{one_administration, unavailable}
use Rattle.rules.specs.Changes.{communities, is_tag, is_erroneous, drop_from}
use Rattle.rules.specs.Origin.{tag_values, greatest, tag_state}
use Rattle.rules.specs.Receipt.{dropped_received, state_left}
use Rattle.rules.specs.declared.Session.{Session}
use Rattle.rules.proofs.Lists.{keep_apart}
use Rattle.rules.proofs.Communities.{drop_communities_lem}

-- What is kept up to 2 of the values of tags, and of those that are left once the erroneous ones are dropped.
abbrev up_to2 : List (List ℕ) → List ℕ
up_to2 l = keep (λ n. leb n 2) (map (λ c. get_or c 7 0) (keep is_tag l))

up-to_2 : (l : List (List ℕ)) → up_to2 (keep (λ c. not (is_erroneous c)) l) ≡ up_to2 l
unfolding keep is_erroneous
up-to_2 [] = refl
up-to_2 (c ∷ l) = go (is_tag c) (ltb 2 (get_or c 7 0)) refl refl (up-to_2 l)
  where
    rest : List (List ℕ)
    rest = keep (λ c. not (is_erroneous c)) l

    go : (x y : Bool) → is_tag c ≡ x → ltb 2 (get_or c 7 0) ≡ y → up_to2 rest ≡ up_to2 l
        → up_to2 (cond (not (x && y)) (c ∷ rest) rest) ≡ keep (λ n. leb n 2) (map (λ c. get_or c 7 0) (cond x (c ∷ keep is_tag l) (keep is_tag l)))
    go true true e q ih = rw (lt-leb (get_or c 7 0) 2 (ltb-true 2 (get_or c 7 0) q)) ih
    go true false e q ih = rw (e, ih) refl
    go false y e q ih = rw e ih

module _ (v : List ℕ) where
  -- Where every tag is dropped, none is left to tell a state; where the erroneous ones are, the state is the same.
  pub tags-gone : tag_state (tag_values (drop_from is_tag v)) ≡ unavailable
  unfolding tag_state tag_values greatest keep
  tags-gone = rw (drop_communities_lem is_tag v, keep_apart is_tag (communities v)) refl

  pub erroneous-gone : tag_state (tag_values (drop_from is_erroneous v)) ≡ tag_state (tag_values v)
  unfolding tag_state tag_values
  erroneous-gone = rw (drop_communities_lem is_erroneous v) (ap greatest (up-to_2 (communities v)))

  module _ (s : Session) where
    pub byte_0_unavailable : one_administration s ≡ false → state_left s v ≡ unavailable
    unfolding state_left dropped_received
    byte_0_unavailable e = rw e tags-gone

    pub byte_1_read : one_administration s ≡ true → state_left s v ≡ tag_state (tag_values v)
    unfolding state_left dropped_received
    byte_1_read e = rw e erroneous-gone
