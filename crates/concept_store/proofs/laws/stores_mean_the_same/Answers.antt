use Rattle.std.proofs.Common.{◌+◌, refl}
use Rattle.concept_store.specs.Nodes.{trees_of, nodes_over, all_over, parts_within}
use Rattle.concept_store.proofs.BuildLaws.{left_means, right_means}
use Rattle.concept_store.proofs.laws.stores_mean_the_same.Goals as goal

pub returns-clause-left : goal.returns-clause-left
returns-clause-left c classes roles left right over_left over_right =
    let trees = trees_of classes left right in
    left_means classes roles left right over_left over_right (nodes_over trees) (all_over trees roles left) refl refl

pub returns-clause-right : goal.returns-clause-right
returns-clause-right c classes roles left right over_left over_right =
    let trees = trees_of classes left right in
    right_means classes roles left right over_left over_right (nodes_over trees) (all_over trees (roles + parts_within left) right) refl refl
