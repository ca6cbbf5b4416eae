use Rattle.std.proofs.Common.{◌≡◌, ◌∙◌, ap}
use Rattle.sssom_rows.specs.Inside.Places.{field_in, place_in}
use Rattle.sssom_rows.specs.Columns.{column_name, field_of}
use Rattle.sssom_rows.specs.Records.{FieldList}
use Rattle.sssom_rows.proofs.FieldLaws.{place_is, field_at_place}
use Rattle.sssom_rows.proofs.places.Columns.field.Goals as goal

pub returns : goal.returns
returns c =
    let names = c.self.inside.names in
    let fields = c.args.fields.now in
    let place : c.of.result ≡ place_in (column_name c.args.column) names = c.of.ensures ∙ place_is names c.self.inside.places c.args.column c.self.invariant in
    c.field_in.ensures ∙ ap (λ p. field_in p fields) place ∙ field_at_place (column_name c.args.column) names fields
    ∙ ap (λ (held : FieldList). field_of held fields c.args.column) c.self.view_is
