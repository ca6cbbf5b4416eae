-- How many ranks are kept.
use Rattle.std.proofs.Common.{◌≡◌, ℕ, suc, ◌≤◌, Bool, true, false, ⊎_elim, List, [], ◌∷◌, length, arith}
use Rattle.std.proofs.lemmas.Bool.{cases_Bool}
use Rattle.accuse_core.specs.declared.mark.Mark.{Mark}
use Rattle.accuse_core.specs.Marks.{ranks_from}

-- no more ranks pass a test than there are
pub few_ranks : (passes : Mark → Bool) (rank : ℕ) (marks : List Mark) → length (ranks_from passes rank marks) ≤ length marks
few_ranks passes rank [] = omega arith
few_ranks passes rank (mark ∷ marks) =
    let later = few_ranks passes (suc rank) marks in
    ⊎_elim
    (λ (keeps : passes mark ≡ true). rw keeps (omega arith))
    (λ (drops : passes mark ≡ false). rw drops (omega arith))
    (cases_Bool (passes mark))
