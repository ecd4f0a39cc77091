-- `keys_of` meets its contract.
use Rattle.choice.proofs.Candidates.{keys_found}
use Rattle.choice.proofs.keys.keys_of.Goals as goal

pub returns : goal.returns
returns c = keys_found c.requires c.value.ensures c.path_length.ensures c.value-2.ensures c.origin.ensures
