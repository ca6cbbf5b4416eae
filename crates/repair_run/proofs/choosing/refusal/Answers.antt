use Rattle.std.proofs.Common.{subst}
use Rattle.byte_words.specs.Faults.{OrOutOfMemory}
use Rattle.saturate.specs.Decisions.{IsStartFault, start_ran_out}
use Rattle.repair_run.specs.Outcomes.{case_in}
use Rattle.repair_run.proofs.ChoiceLaws.{found}
use Rattle.repair_run.proofs.choosing.refusal.Goals as goal

pub returns-in-Ok-class_iri : goal.returns-in-Ok-class_iri
returns-in-Ok-class_iri c =
    let loaded = c.args.loaded.now in
    let fault = subst (OrOutOfMemory start_ran_out (IsStartFault (case_in loaded))) c.in-Incoherent.is c.requires.fault in
    (found c.excusing_none_is_incoherence.ensures loaded c.requires.plain c.in-Incoherent.part c.in-Incoherent.class c.in-Ok-class_iri.class fault.0 fault.1.first c.in-Ok-class_iri.ensures, c.in-Ok.ensures)
