use Rattle.std.proofs.Common.{All, take}
use Rattle.el_logic.specs.Meaning.{Holds}
use Rattle.case_file.specs.Incoherence.{axioms_of_ranks}
use Rattle.model_check.proofs.check.first_failing_row.Given as goal

abbrev pub invariant-loop-rank : goal.invariant-loop-rank
invariant-loop-rank l = All (Holds l.lists.ordered) (axioms_of_ranks l.case (take l.rank-index l.ranks))
