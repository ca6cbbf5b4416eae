use Rattle.whole_run.proofs.Valid.{run_is_valid, refusal_is_valid}
use Rattle.whole_run.proofs.laws.evidence_of_runs_is_valid.Goals as goal

pub returns-clause-repair : goal.returns-clause-repair
returns-clause-repair c = run_is_valid c.texts_are_what_is_read.ensures.again

pub returns-clause-refusal : goal.returns-clause-refusal
returns-clause-refusal c = refusal_is_valid c.texts_are_what_is_read.ensures.again
