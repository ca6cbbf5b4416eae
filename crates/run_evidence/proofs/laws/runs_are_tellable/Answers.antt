use Rattle.std.proofs.Common.{subst}
use Rattle.case_file.specs.Cases.{IsCase}
use Rattle.run_evidence.proofs.Told.{tellable}
use Rattle.run_evidence.proofs.laws.runs_are_tellable.Goals as goal

pub returns : goal.returns
returns c texts mode limits left right is =
    let ranking = c.ranking_has_each_row_once.ensures in
    tellable (record {
      once = ranking.once;
      count = ranking.count;
      few = c.few_axioms_with_numbers_in_range.ensures.few;
    }) texts mode limits c.args.loaded.now is
    (c.loaded_names_are_iris.ensures texts mode limits c.args.loaded.now is)
    (c.omitted_stand_in_order.ensures texts mode limits c.args.loaded.now left right is)
    (subst IsCase c.case_of-case.ensures.value c.case_of-case.ensures.case)
