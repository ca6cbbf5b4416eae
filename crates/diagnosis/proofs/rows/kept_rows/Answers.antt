use Rattle.std.proofs.Common.{◌≡◌, length, ap, ◌∙◌, rules}
use Rattle.accuse_core.specs.Marks.{kept_of}
use Rattle.diagnosis.specs.Rows.{keep_of}
use Rattle.diagnosis.proofs.RowLaws.{length-keep_of}
use Rattle.diagnosis.proofs.rows.kept_rows.Goals as goal

pub returns-clause-removed : goal.returns-clause-removed
returns-clause-removed c =
    let order = c.args.book.now.case.order in
    let kept = kept_of c.args.book.now.marks in
    let keep_is : c.in_ok-keep.keep.items ≡ keep_of order kept = search rules in
    c.counted.ensures.removed ∙ ap length keep_is ∙ length-keep_of order kept
