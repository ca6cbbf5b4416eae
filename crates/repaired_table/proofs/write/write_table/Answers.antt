use Rattle.std.proofs.Common.{◌∙◌, refl, append_assoc}
use Rattle.std.proofs.lemmas.List.{append-nil}
use Rattle.repaired_table.proofs.WriteLaws.{stayed}
use Rattle.repaired_table.proofs.write.write_table.Goals as goal

pub returns-in-Ok : goal.returns-in-Ok
returns-in-Ok c =
    let from = c.from_writer-writer.ensures in
    let head = c.in_ok-head.head.items in
    let columns = c.in_ok-write_row.ensures head (record {
      setup = rw (from.cfg, c.flexible.ensures, c.delimiter.ensures, c.new.ensures) refl;
      ended = from.fields;
      clean = from.wrote;
      written = rw (from.wtr, from.empty, append-nil head) refl;
    }) in
    let rows = c.in_ok-write_rows.ensures _ columns in
    let text = stayed _ _ _ rows.written c.in-Ok.ensures.ok in
    c.from_vec.ensures ∙ text ∙ append_assoc head _ _ ∙ rw (c.in_ok-head.ensures.items, c.as_slice.ensures, c.as_slice-2.ensures) refl
