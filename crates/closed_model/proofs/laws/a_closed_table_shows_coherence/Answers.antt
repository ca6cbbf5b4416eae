use Rattle.closed_model.proofs.ModelLaws.{inhabited}
use Rattle.closed_model.proofs.SaidInterp.{exists}
use Rattle.closed_model.proofs.laws.a_closed_table_shows_coherence.Goals as goal

pub returns : goal.returns
returns c table part some is_case closed within =
    let reading = c.closed_tables_say_readings.ensures.reading table is_case closed in
    let found = exists table (inhabited table (λ node must. c.closed_tables_say_readings.ensures.members table node is_case closed must)) reading.inside reading.linked_inside in
    c.a_model_shows_coherence.ensures table.case table.ranks some part found.0 (c.what_a_closed_table_says_is_a_model.ensures table found.0 is_case closed found.1) within
