use Rattle.std.proofs.Common.{◌∙◌, ◌<◌, ◌≤◌, ℕ, List, length, get_or, ap, sym, subst, arith}
use Rattle.std.proofs.lemmas.List.Elements.{All-get_or}
use Rattle.derivation.specs.declared.types.Step.{Step}
use Rattle.case_file.specs.Cases.{AreRanksOf}
use Rattle.evidence_text.specs.declared.types.Removed.{Removed}
use Rattle.valid_evidence.specs.Rows.{ranks_up_to, steps_by_rank}
use Rattle.check_items.specs.Inside.Stages.{IsRowAnswer}
use Rattle.check_items.proofs.TableLaws.{length-row_ranks, row_has_rank, up_to_are_ranks}
use Rattle.check_items.proofs.StepsLaws.{row_answer, same_there}
use Rattle.check_items.proofs.steps.steps_answer.Goals as goal

pub rank_of-rank-requires : goal.rank_of-rank-requires
rank_of-rank-requires c =
    let given = c.store-case.ensures.case.given in
    let long = ap (λ (ranks : List ℕ). length ranks) (c.as_slice-table.ensures.value ∙ c.requires.tables.ranks) ∙ length-row_ranks c.args.case.now.order in
    omega (arith, long, given.ranks, given.rows_few)

pub steps_by_rank-requires : goal.steps_by_rank-requires
steps_by_rank-requires c =
    let given = c.store-case.ensures.case.given in
    let long = ap (λ (ranks : List ℕ). length ranks) (c.as_slice-table.ensures.value ∙ c.requires.tables.ranks) ∙ length-row_ranks c.args.case.now.order in
    omega (arith, long, given.ranks, given.rows_few)

pub check_derivation-requires : goal.check_derivation-requires
check_derivation-requires c =
    let case = c.args.case.now in
    let order = case.order in
    let given = c.store-case.ensures.case.given in
    let one = c.index-removed-place.result in
    let row = subst (λ (r : Removed). (1 ≤ r.row) × (r.row ≤ length order)) (sym c.index-removed-place.is)
    (All-get_or (λ (r : Removed). (1 ≤ r.row) × (r.row ≤ length order)) c.args.removed.now c.args.place one c.requires.place c.requires.rows) in
    let rank_is = c.rank_of-rank.ensures order
    (λ k inside. subst (λ n. get_or order k 0 < n) (sym given.ranks) (All-get_or (λ (r : ℕ). r < length case.rows) order k 0 inside given.indexes))
    (c.as_slice-table.ensures.value ∙ c.requires.tables.ranks) in
    let inside : c.rank_of-rank.result < length order =
    subst (λ n. n < length order) (sym rank_is) (row_has_rank order one.row (λ index below. given.each_row index (omega (arith, below, given.ranks))) row.0 row.1) in
    subst (AreRanksOf case) (sym (c.as_slice-3.ensures.value ∙ c.in_ok-ranks.ensures))
    (up_to_are_ranks case c.as_slice.result.now c.rank_of-rank.result (subst (AreRanksOf case) (sym c.as_slice.ensures.value) c.requires.tables.are_ranks) inside)

pub returns : goal.returns
returns c one there =
    let case = c.args.case.now in
    let order = case.order in
    let removed = c.args.removed.now in
    let given = c.store-case.ensures.case.given in
    let read = c.index-removed-place.result in
    let table = c.as_slice-table.ensures.value ∙ c.requires.tables.ranks in
    let has = λ (k : ℕ) (inside : k < length order).
    subst (λ n. get_or order k 0 < n) (sym given.ranks) (All-get_or (λ (r : ℕ). r < length case.rows) order k 0 inside given.indexes) in
    subst (λ (r : Removed). IsRowAnswer case removed r c.check_derivation.result) (same_there removed c.args.place read one c.requires.place c.index-removed-place.is there)
    (row_answer case removed read c.check_derivation.result c.as_slice-3.result.now c.in_ok-steps.steps c.rank_of-rank.result
    (c.as_slice-3.ensures.value ∙ c.in_ok-ranks.ensures ∙ ap (λ (kept : List ℕ). ranks_up_to kept c.rank_of-rank.result) (c.as_slice.ensures.value ∙ c.requires.tables.kept))
    (c.rank_of-rank.ensures order has table)
    (c.in_ok-steps.ensures order has table ∙ ap (λ (steps : List Step). steps_by_rank order steps) c.as_slice-2.ensures)
    c.check_derivation.ensures)
