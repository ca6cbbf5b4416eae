use Rattle.std.proofs.Common.{subst, sym, ⊎_elim}
use Rattle.conflict_logic.specs.Accused.{IsAccused}
use Rattle.conflict_logic.specs.Worked.{IsRepeated}
use Rattle.conflict_logic.proofs.WorkedLaws.{repeat_accuses_one, repeat_accuses_two, repeat_accuses_no_other}
use Rattle.conflict_logic.proofs.worked.repeat_accuses_both_later.Goals as goal

pub returns : goal.returns
returns c = λ rank. (
  repeat_accuses_no_other rank,
  ⊎_elim (λ same. subst (IsAccused IsRepeated) (sym same) repeat_accuses_one) (λ same. subst (IsAccused IsRepeated) (sym same) repeat_accuses_two),
)
