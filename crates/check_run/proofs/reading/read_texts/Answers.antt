use Rattle.check_run.proofs.reading.read_texts.Goals as goal

pub returns-in-Repair-clause-fault : goal.returns-in-Repair-clause-fault
returns-in-Repair-clause-fault g c = rw c.in-Repair.is (c.read_run.ensures.fault c.in-Repair.el_part)

pub returns-in-Refusal-clause-fault : goal.returns-in-Refusal-clause-fault
returns-in-Refusal-clause-fault g c = rw c.in-Refusal.is (c.read_refusal.ensures.fault c.in-Refusal.el_part)
