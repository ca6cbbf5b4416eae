use Rattle.case_file.proofs.IncoherenceLaws.{to_class, to_node}
use Rattle.case_file.proofs.laws.excusing_none_is_incoherence.Goals as goal

pub returns : goal.returns
returns c case part ranks none = (to_class case part ranks, to_node case part ranks none)
