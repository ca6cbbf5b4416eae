use Rattle.std.proofs.Common.{List, ◌∙◌, ◌∷◌, ◌++◌, [], sym, ap, arith, append_assoc, length-append}
use Rattle.std.specs.Vec.Iter.{into_iter_items}
use Rattle.sssom_rows.specs.Records.{FieldList}
use Rattle.sssom_rows.proofs.TableLaws.{rows_and_one}
use Rattle.sssom_rows.proofs.table.rows_of.Goals as goal

pub loop-fields-preserved : goal.loop-fields-preserved
loop-fields-preserved c =
    let held = c.loop-fields.invariant in
    let so_far = c.loop-fields.yielded in
    let fields = c.in-Some.fields in
    record {
      whole = held.whole ∙ ap (λ (rest : List FieldList). so_far ++ rest) c.in-Some.ensures.steps.0 ∙ sym (append_assoc so_far (fields ∷ []) (into_iter_items c.next.new.self));
      counted = omega (arith, held.counted, length-append so_far (fields ∷ []));
      few = c.in-Ok-row_of.ensures.0;
      sound = rw c.in-Ok-push.ensures.items (rows_and_one c.args.prefixes.now c.args.columns.now so_far c.loop-fields.rows.items fields c.in-Ok-row_of.row held.sound c.in-Ok-row_of.ensures.1);
    }
