use Rattle.concept_store.proofs.BuildLaws.{length-roles}
use Rattle.concept_store.proofs.laws.stores_have_a_role_for_each_part.Goals as goal

pub returns : goal.returns
returns c = length-roles
