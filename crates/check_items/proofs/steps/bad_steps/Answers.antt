use Rattle.std.proofs.Common.{All, length, refl, ap, sym, subst, ◌∙◌, arith}
use Rattle.std.proofs.lemmas.List.{take_all}
use Rattle.std.proofs.lemmas.List.Elements.{All-more}
use Rattle.std.proofs.lemmas.Option.{slice_get_read, get_or_from_slice_get}
use Rattle.evidence_text.specs.declared.types.Removed.{Removed}
use Rattle.valid_evidence.specs.Items.{IsShownEmpty}
use Rattle.check_items.specs.Inside.Stages.{IsRowAnswer, IsStepsFault, bad_row}
use Rattle.check_items.proofs.StepsLaws.{steps_fault, one_there}
use Rattle.check_items.proofs.steps.bad_steps.Goals as goal

pub returns-in-Err : goal.returns-in-Err
returns-in-Err c =
    let case = c.args.case.now in
    let removed = c.args.removed.now in
    let place = c.loop-place.place in
    let one = c.index-removed-place.result in
    let there = slice_get_read removed (length removed) place one refl c.loop-place-test.true c.index-removed-place.is in
    subst (IsStepsFault case removed) (sym (c.bad_row.ensures ∙ ap (λ (r : Removed). bad_row r.row c.in-Err.reason) (sym c.index-removed-place.is)))
    (steps_fault c.derivations_have_one_answer.ensures case removed place one there c.loop-place.invariant c.in-Err.reason
    (subst (IsRowAnswer case removed one) c.in-Err.is (c.in_ok-answer.ensures one there)))

pub loop-place-preserved : goal.loop-place-preserved
loop-place-preserved c =
    let case = c.args.case.now in
    let removed = c.args.removed.now in
    let place = c.loop-place.place in
    let one = one_there removed place c.loop-place-test.true in
    let shown : IsShownEmpty case removed one.0 = subst (IsRowAnswer case removed one.0) c.in-Ok.is (c.in_ok-answer.ensures one.0 one.1) in
    All-more (IsShownEmpty case removed) removed place one.0 c.loop-place-test.true c.loop-place.invariant
    (subst (IsShownEmpty case removed) (sym (get_or_from_slice_get removed place one.0 one.0 one.1)) shown)

pub returns : goal.returns
returns c =
    subst (All (IsShownEmpty c.args.case.now c.args.removed.now)) (take_all c.loop-place.place c.args.removed.now (omega (arith, c.loop-place-test.false, c.loop-place.auto.place-end)))
    c.loop-place.invariant
