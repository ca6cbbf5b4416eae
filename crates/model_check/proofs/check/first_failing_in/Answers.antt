use Rattle.std.proofs.lemmas.Result.{IfOk-weaker}
use Rattle.model_check.specs.Inside.Lists.{FindsFailingOf}
use Rattle.model_check.proofs.FailLaws.{own_counts, finds_over}
use Rattle.model_check.proofs.check.first_failing_in.Goals as goal

pub model_lists-requires : goal.model_lists-requires
model_lists-requires c = own_counts c.args.case.now.classes c.args.case.now.properties c.args.model.now c.requires.fits

pub returns : goal.returns
returns c =
    let case = c.args.case.now in
    let ranks = c.args.ranks.now in
    let ordered = c.in_ok-lists.lists.ordered in
    IfOk-weaker c.first_failing_of.result (FindsFailingOf case ordered ranks) (FindsFailingOf case c.args.model.now ranks)
    (finds_over case ordered c.args.model.now ranks c.in_ok-lists.ensures.meaning) c.first_failing_of.ensures
