use Rattle.std.proofs.Common.{◌≡◌, ◌∙◌, Some, true, false, sym, rules}
use Rattle.std.specs.Prelude.{slice_get}
use Rattle.std.specs.Str.{is_utf8}
use Rattle.sssom_rows.proofs.FieldLaws.{texts_end, texts_go_on}
use Rattle.sssom_rows.proofs.records.are_texts.Goals as goal

pub returns-then-not-is_text : goal.returns-then-not-is_text
returns-then-not-is_text c =
    let here : Some c.in-Some.field.now ≡ slice_get c.args.fields.now c.loop-place.place = first_of (search rules, cc c.in-Some.ensures) in
    let bad : false ≡ is_utf8 c.in-Some.field.now = first_of (search rules, cc (c.is_text.ensures, c.if-not-is_text.true)) in
    sym (texts_end c.args.fields.now c.loop-place.place c.in-Some.field.now here bad) ∙ c.loop-place.invariant

pub loop-place-preserved : goal.loop-place-preserved
loop-place-preserved c =
    let here : Some c.in-Some.field.now ≡ slice_get c.args.fields.now c.loop-place.place = first_of (search rules, cc c.in-Some.ensures) in
    let good : true ≡ is_utf8 c.in-Some.field.now = first_of (search rules, cc (c.is_text.ensures, c.if-not-is_text.false)) in
    sym (texts_go_on c.args.fields.now c.loop-place.place c.in-Some.field.now here good) ∙ c.loop-place.invariant
