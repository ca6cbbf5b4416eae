use Rattle.sssom_rows.specs.Columns.{column_name}
use Rattle.sssom_rows.proofs.FieldLaws.{under_is_text}
use Rattle.sssom_rows.proofs.rows.id_at.Goals as goal

pub id_in-requires : goal.id_in-requires
id_in-requires c = rw c.field.ensures (under_is_text (column_name c.args.column) c.args.columns.now c.args.fields.now c.requires)
