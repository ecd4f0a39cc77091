-- The comparison keys of a candidate as the code keeps them.
use Rattle.std.specs.Prelude.{ℕ, ◌≡◌, true, List, [], ◌∷◌, get_or}
use Rattle.rules.specs.Attributes.{attributes, value_of, readable, segments, origin_type, as_path_type}
use Rattle.rules.specs.Choice.{Candidate, path_length}
use Rattle.attributes.specs.Layout.{layout}
use Rattle.attributes.specs.declared.layout.Layout.{Layout}
use Rattle.choice.specs.declared.keys.Keys.{Keys}

-- What a clean reading of a block says.
pub record Reads (b : List ℕ) (l : Layout) : Type 0 where
  pub good : readable b ≡ true
  pub is : l ≡ layout (attributes b)

-- Those of a block, and of the sender's identifier and address.
unfoldable pub keys_in : List ℕ → ℕ → ℕ → Keys
keys_in b identifier address =
    let l = attributes b in
    record {
      path = path_length (segments (value_of as_path_type l));
      origin = get_or (value_of origin_type l) 0 0;
      identifier = identifier;
      address = address;
    }

abbrev pub keys_of : Candidate → Keys
keys_of c = keys_in c.block c.identifier c.address

-- As the list by which `Choice.before` orders routes: of `keys_of` it is `Choice.keys`.
unfoldable pub listed : Keys → List ℕ
listed k = k.path ∷ k.origin ∷ k.identifier ∷ k.address ∷ []
