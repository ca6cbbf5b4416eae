use Rattle.case_load.proofs.Readings.{reading_is_over}
use Rattle.case_load.proofs.laws.readings_are_over_their_names.Goals as goal

pub returns : goal.returns
returns c text mode depth old new document = reading_is_over (record {
  keeps = c.numbers_stay.ensures.held_by_more;
  adds = c.numbers_stay.ensures.added;
  group = c.items_are_written_out.ensures.group;
  few = c.items_are_written_out.ensures.few;
  each = c.tokens_of_items_have_their_forms.ensures.each;
  in_order = c.tokens_of_items_have_their_forms.ensures.in_order;
}) text mode depth old new document
