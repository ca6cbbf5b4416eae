use Rattle.loaded_names.proofs.LeftOut.{left_out_in_order}
use Rattle.loaded_names.proofs.laws.omitted_stand_in_order.Goals as goal

pub returns : goal.returns
returns c = left_out_in_order (record {
  written = record {
    none = c.items_are_written_out.ensures.none;
    atom = c.items_are_written_out.ensures.atom;
    group = c.items_are_written_out.ensures.group;
  };
  next = c.tokens_have_their_forms.ensures.next;
  says = c.documents_are_what_they_say.ensures.says;
  ascend = c.places_ascend.ensures;
})
