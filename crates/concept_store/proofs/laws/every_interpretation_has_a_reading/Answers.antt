use Rattle.std.proofs.Common.{◌+◌, ◌++◌, arith}
use Rattle.concept_store.specs.Nodes.{trees_of, parts_within}
use Rattle.concept_store.specs.Inside.Tests.{front_at, reading_by}
use Rattle.concept_store.proofs.BuildLaws.{right_are}
use Rattle.concept_store.proofs.ReadingLaws.{is_reading_of}
use Rattle.concept_store.proofs.FrontLaws.{all_parts, front_of_left, front_of_right}
use Rattle.concept_store.proofs.OverTrees.{restricts_properties}
use Rattle.concept_store.proofs.laws.every_interpretation_has_a_reading.Goals as goal

pub returns : goal.returns
returns c classes roles left right i over_left over_right is =
    let trees = trees_of classes left right in
    let front = front_at roles (left ++ right) in
    let forest = (right_are classes roles left right over_left over_right 0).forest in (
      reading_by trees roles front i,
      is_reading_of classes roles i is trees forest front (restricts_properties classes roles left right over_left over_right),
      all_parts classes roles i is trees forest front left roles (omega arith) over_left.each (λ r from to. front_of_left left right roles r from to),
      all_parts classes roles i is trees forest front right (roles + parts_within left) (omega arith) over_right.each
          (λ r from to. front_of_right left right roles r from),
    )
