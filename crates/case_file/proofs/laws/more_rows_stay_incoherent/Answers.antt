use Rattle.case_file.proofs.IncoherenceLaws.{more_ranks}
use Rattle.case_file.proofs.laws.more_rows_stay_incoherent.Goals as goal

pub returns : goal.returns
returns c case part ranks more kept incoherent = more_ranks case part ranks more kept incoherent
