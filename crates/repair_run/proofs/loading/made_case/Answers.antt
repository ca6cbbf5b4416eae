use Rattle.std.proofs.Common.{◌∙◌}
use Rattle.byte_words.specs.Faults.{OrOutOfMemory}
use Rattle.ofn_axiom.specs.declared.types.Mode.TheVariants.{Strict}
use Rattle.case_load.specs.Loads.{Inputs, IsLoaded}
use Rattle.case_load.specs.Faults.{IsFirstLoadFault, load_ran_out}
use Rattle.repair_run.specs.Made.{IsMadeFault}
use Rattle.repair_run.proofs.RunLaws.{fault_stops, made_inputs}
use Rattle.repair_run.proofs.loading.made_case.Goals as goal

pub returns-in-Ok-assemble-clause-loaded : goal.returns-in-Ok-assemble-clause-loaded
returns-in-Ok-assemble-clause-loaded c =
    made_inputs (λ (texts : Inputs). IsLoaded texts Strict c.args.limits.now c.in-Ok-assemble.loaded) c.args.size
    (c.as_slice-left.ensures ∙ c.in-Ok.ensures.left) (c.as_slice-right.ensures ∙ c.in-Ok.ensures.right) (c.as_slice.ensures ∙ c.in-Ok.ensures.table) c.in-Ok-assemble.ensures.loaded

pub returns-clause-stop : goal.returns-clause-stop
returns-clause-stop c =
    rw c.status_of.ensures (fault_stops (IsMadeFault c.args.size c.args.limits.now) c.in-Err.fault
    (made_inputs (λ (texts : Inputs). OrOutOfMemory load_ran_out (IsFirstLoadFault texts Strict c.args.limits.now) c.in-Err.fault) c.args.size
    (c.as_slice-left.ensures ∙ c.in-Ok.ensures.left) (c.as_slice-right.ensures ∙ c.in-Ok.ensures.right) (c.as_slice.ensures ∙ c.in-Ok.ensures.table) c.in-Err.ensures.fault))
