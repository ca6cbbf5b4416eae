use Rattle.std.proofs.Common.{subst, sym}
use Rattle.conflict_logic.specs.Accused.{IsAccused}
use Rattle.conflict_logic.specs.Worked.{IsChained}
use Rattle.conflict_logic.proofs.WorkedLaws.{chain_accuses_its_second, chain_accuses_no_other}
use Rattle.conflict_logic.proofs.worked.chain_accuses_its_middle.Goals as goal

pub returns : goal.returns
returns c = λ rank. (chain_accuses_no_other rank, λ same. subst (IsAccused IsChained) (sym same) chain_accuses_its_second)
