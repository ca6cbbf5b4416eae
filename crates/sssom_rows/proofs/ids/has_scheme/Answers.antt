use Rattle.std.proofs.Common.{◌∙◌, sym}
use Rattle.sssom_rows.proofs.FieldLaws.{scheme_later}
use Rattle.sssom_rows.proofs.ids.has_scheme.Goals as goal

pub loop-place-preserved : goal.loop-place-preserved
loop-place-preserved c =
    let missing = rw c.split_at.ensures.back at c.in-None.ensures in
    sym (scheme_later c.args.id.now c.loop-place.place c.loop-place-test.true missing) ∙ c.loop-place.invariant
