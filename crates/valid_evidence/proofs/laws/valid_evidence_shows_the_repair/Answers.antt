use Rattle.std.proofs.Common.{subst}
use Rattle.case_file.specs.Cases.{IsCase}
use Rattle.valid_evidence.proofs.LoadedLaws.{repaired}
use Rattle.valid_evidence.proofs.laws.valid_evidence_shows_the_repair.Goals as goal

pub returns : goal.returns
returns c texts mode limits out e is valid =
    repaired limits is.documents is.table c.args.loaded.now is.made (subst IsCase c.deref.ensures c.store-case.ensures.case)
    c.ranking_has_each_row_once.ensures.count c.ranking_has_each_row_once.ensures.once c.excusing_none_is_incoherence.ensures
    c.good_derivations_show_incoherence.ensures c.more_rows_stay_incoherent.ensures c.kept_ranks_have_the_mark.ensures
    c.certified_ranks_are_a_repair.ensures out e.body valid.body
