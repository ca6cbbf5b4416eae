use Rattle.std.proofs.Common.{subst}
use Rattle.case_file.specs.Cases.{IsCase}
use Rattle.valid_evidence.proofs.LoadedLaws.{refused}
use Rattle.valid_evidence.proofs.laws.valid_refusals_show_incoherence.Goals as goal

pub returns : goal.returns
returns c texts mode limits part e is valid =
    refused limits is.documents is.table c.args.loaded.now is.made (subst IsCase c.deref.ensures c.store-case.ensures.case)
    c.excusing_none_is_incoherence.ensures c.good_derivations_show_incoherence.ensures part e.body valid.body
