use Rattle.std.proofs.Common.{◌≡◌, ◌<◌, ◌+◌, ℕ, List, [], ◌∷◌, ◌++◌, length, map, get_or, sym, ap, subst, ◌∙◌, arith, rules, All}
use Rattle.std.specs.Prelude.{Some, None, slice_index}
use Rattle.std.specs.List.{range_with_len}
use Rattle.derivation.specs.declared.types.Step.{Step}
use Rattle.case_file.specs.Cases.{CaseView}
use Rattle.commit_book.specs.Books.{why_at}
use Rattle.evidence_text.specs.declared.types.Removed.{Removed}
use Rattle.valid_evidence.specs.Rows.{rank_of_row}
use Rattle.run_evidence.specs.Inside.RowNumbers.{HasRanksBelow, step_by_row}
use Rattle.run_evidence.proofs.Taken.{removed_of}
use Rattle.run_evidence.proofs.Bodies.{why_below}
use Rattle.run_evidence.proofs.Loops.{row_left, row_taken}
use Rattle.run_evidence.proofs.rows.removed_rows.Goals as goal

-- the rank that is read for a row is the row's
rank_read : (case own : CaseView) (ranks items : List ℕ) (index : ℕ) → own ≡ case → items ≡ ranks
    → ((i : ℕ) → i < length own.order → slice_index ranks i ≡ rank_of_row own.order (i + 1)) → index < length own.order
    → get_or items index 0 ≡ rank_of_row case.order (index + 1)
rank_read case own ranks items index same are each inside =
    ap (λ (l : List ℕ). slice_index l index) are ∙ each index inside ∙ ap (λ (c : CaseView). rank_of_row c.order (index + 1)) same

pub loop-index-preserved-in_default : goal.loop-index-preserved-in_default
loop-index-preserved-in_default c =
    let book = c.args.book.now in
    let index = c.loop-index.index in
    let items = c.deref-rank-items.result.now in
    let inside : index < length c.case_in-case.result.now.order = omega (arith, c.in_ok-ranks.ensures.count, c.deref-rank-items.ensures.len, c.loop-index-test.true) in
    let rank = rank_read book.case c.case_in-case.result.now c.in_ok-ranks.ranks.items items index c.case_in-case.ensures.value c.deref-rank-items.ensures.value c.in_ok-ranks.ensures.ranks inside in
    let none : None ≡ why_at book.whys (get_or items index 0) = first_of (search rules, cc c.in_default.ensures) in
    c.loop-index.invariant ∙ sym (row_left book.case.order book.whys index (ap (why_at book.whys) (sym rank) ∙ sym none))

pub steps_by_row-requires : goal.steps_by_row-requires
steps_by_row-requires c =
    let book = c.args.book.now in
    let index = c.loop-index.index in
    let items = c.deref-rank-items.result.now in
    let own = c.case_in-case.result.now in
    let inside : index < length own.order = omega (arith, c.in_ok-ranks.ensures.count, c.deref-rank-items.ensures.len, c.loop-index-test.true) in
    let within : index < length book.case.order = omega (arith, inside, ap (λ (d : CaseView). length d.order) c.case_in-case.ensures.value) in
    let rank = rank_read book.case own c.in_ok-ranks.ranks.items items index c.case_in-case.ensures.value c.deref-rank-items.ensures.value c.in_ok-ranks.ensures.ranks inside in
    let some : Some c.in-Some.why.now ≡ why_at book.whys (get_or items index 0) = first_of (search rules, cc c.in-Some.ensures) in
    let below = why_below book.case book.marks book.whys c.requires index within c.in-Some.why.now (ap (why_at book.whys) (sym rank) ∙ sym some) in
    subst (λ (steps : List Step). All (λ step. HasRanksBelow (length own.order) step.source) steps) (sym c.as_slice.ensures)
    (subst (λ (d : CaseView). All (λ step. HasRanksBelow (length d.order) step.source) c.in-Some.why.now) (sym c.case_in-case.ensures.value) below)

pub overflow_cast-row : goal.overflow_cast-row
overflow_cast-row c =
    let given = c.case_in-case.ensures.case.given in
    omega (arith, c.in_ok-ranks.ensures.count, c.deref-rank-items.ensures.len, c.loop-index-test.true, given.ranks, given.rows_few)

pub overflow_add-row : goal.overflow_add-row
overflow_add-row c =
    let given = c.case_in-case.ensures.case.given in
    omega (arith, c.in_ok-ranks.ensures.count, c.deref-rank-items.ensures.len, c.loop-index-test.true, given.ranks, given.rows_few)

pub loop-index-preserved : goal.loop-index-preserved
loop-index-preserved c =
    let book = c.args.book.now in
    let order = book.case.order in
    let index = c.loop-index.index in
    let items = c.deref-rank-items.result.now in
    let own = c.case_in-case.result.now in
    let inside : index < length own.order = omega (arith, c.in_ok-ranks.ensures.count, c.deref-rank-items.ensures.len, c.loop-index-test.true) in
    let rank = rank_read book.case own c.in_ok-ranks.ranks.items items index c.case_in-case.ensures.value c.deref-rank-items.ensures.value c.in_ok-ranks.ensures.ranks inside in
    let some : Some c.in-Some.why.now ≡ why_at book.whys (get_or items index 0) = first_of (search rules, cc c.in-Some.ensures) in
    let before = removed_of order book.whys (range_with_len 0 index) in
    let told : c.in_ok-steps.steps ≡ map (step_by_row order) c.in-Some.why.now =
    c.in_ok-steps.ensures ∙ ap (λ (d : CaseView). map (step_by_row d.order) c.as_slice.result.now) c.case_in-case.ensures.value ∙ ap (map (step_by_row order)) c.as_slice.ensures in
    let one : List Step → Removed = λ (steps : List Step). record { row = index + 1; steps = steps } in
    c.in_ok-push.ensures.items
    ∙ ap (λ (rows : List Removed). rows ++ one c.in_ok-steps.steps ∷ []) c.loop-index.invariant
    ∙ ap (λ (steps : List Step). before ++ one steps ∷ []) told
    ∙ sym (row_taken order book.whys index c.in-Some.why.now (ap (why_at book.whys) (sym rank) ∙ sym some))
