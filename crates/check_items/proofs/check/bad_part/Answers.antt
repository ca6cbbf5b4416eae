use Rattle.std.proofs.Common.{◌∙◌, List, ℕ, [], length, ap, sym, subst, arith}
use Rattle.derivation.specs.Steps.{IsAnswer}
use Rattle.valid_evidence.specs.Items.{case_loaded}
use Rattle.valid_evidence.specs.Rows.{steps_by_rank}
use Rattle.check_items.specs.Bad.{IsBadPart}
use Rattle.check_items.proofs.TableLaws.{length-row_ranks, case_has_rows}
use Rattle.check_items.proofs.StepsLaws.{part_answer, part_fault}
use Rattle.check_items.proofs.check.bad_part.Goals as goal

pub steps_by_rank-requires : goal.steps_by_rank-requires
steps_by_rank-requires c =
    let given = c.store-case.ensures.case.given in
    let long = ap (λ (ranks : List ℕ). length ranks) (c.as_slice.ensures.value ∙ c.in_ok-ranks.ensures) ∙ length-row_ranks c.deref-case.result.now.order in
    omega (arith, long, given.ranks, given.rows_few)

pub returns-in-Ok : goal.returns-in-Ok
returns-in-Ok c =
    let case = case_loaded c.args.loaded.now in
    let other = c.deref-case.result.now in
    let given = c.in_ok-by_rank.ensures other.order (case_has_rows other c.store-case.ensures.case) (c.as_slice.ensures.value ∙ c.in_ok-ranks.ensures) in
    subst (IsAnswer case c.args.part [] (steps_by_rank case.order c.args.steps.now)) c.in-Ok.is
    (part_answer case other c.deref-case.ensures c.args.part c.args.steps.now c.in_ok-by_rank.by_rank given c.check_derivation.result c.check_derivation.ensures)

pub returns : goal.returns
returns c =
    let case = case_loaded c.args.loaded.now in
    let other = c.deref-case.result.now in
    let given = c.in_ok-by_rank.ensures other.order (case_has_rows other c.store-case.ensures.case) (c.as_slice.ensures.value ∙ c.in_ok-ranks.ensures) in
    subst (IsBadPart case c.args.part c.args.steps.now) (sym c.bad_row.ensures)
    (part_fault case c.args.part c.args.steps.now c.in-Err.reason
    (subst (IsAnswer case c.args.part [] (steps_by_rank case.order c.args.steps.now)) c.in-Err.is
    (part_answer case other c.deref-case.ensures c.args.part c.args.steps.now c.in_ok-by_rank.by_rank given c.check_derivation.result c.check_derivation.ensures)))
