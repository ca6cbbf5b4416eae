use Rattle.case_file.proofs.ReadingLaws.{StoreLaws, reading, is_model}
use Rattle.case_file.proofs.laws.models_have_readings.Goals as goal

pub returns : goal.returns
returns c case part ranks i is within interp holds =
    let laws : StoreLaws = record {
      ordered = c.nodes_stand_in_order.ensures;
      left = c.stores_mean_the_same.ensures.left;
      right = c.stores_mean_the_same.ensures.right;
      readings = c.every_interpretation_has_a_reading.ensures;
    } in
    let found = reading laws case is part ranks i interp holds in
    (found.0, found.1.0, is_model laws case is part ranks i interp holds)
