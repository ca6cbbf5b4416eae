use Rattle.ofn_heads.proofs.Found.{id_found, id_name}
use Rattle.ofn_heads.proofs.laws.names_of_heads_are_told_apart.Goals as goal

pub returns : goal.returns
returns c = record { found = id_found; named = id_name }
