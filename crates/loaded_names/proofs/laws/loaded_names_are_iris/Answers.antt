use Rattle.loaded_names.proofs.Documents.{loaded_pass}
use Rattle.loaded_names.proofs.laws.loaded_names_are_iris.Goals as goal

pub returns : goal.returns
returns c texts mode limits loaded = loaded_pass (record {
  written = record {
    none = c.items_are_written_out.ensures.none;
    atom = c.items_are_written_out.ensures.atom;
    group = c.items_are_written_out.ensures.group;
  };
  says = c.documents_are_what_they_say.ensures.says;
  each = c.tokens_of_items_have_their_forms.ensures.each;
}) texts mode limits loaded
