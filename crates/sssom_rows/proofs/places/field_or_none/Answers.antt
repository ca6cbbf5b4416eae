use Rattle.sssom_rows.proofs.FieldLaws.{nothing_at}
use Rattle.sssom_rows.proofs.places.field_or_none.Goals as goal

pub returns-in-None : goal.returns-in-None
returns-in-None c = nothing_at c.args.fields.now c.args.place c.in-None.ensures
