use Rattle.std.proofs.Common.{List, [], ◌<◌, length, map, sym, ap, subst, ◌∙◌, All}
use Rattle.std.proofs.lemmas.List.Elements.{All-nil}
use Rattle.derivation.specs.declared.types.Step.{Step}
use Rattle.case_file.specs.Cases.{CaseView}
use Rattle.evidence_text.specs.declared.types.Body.TheVariants as body
use Rattle.valid_evidence.specs.Items.{case_loaded}
use Rattle.run_evidence.specs.Inside.RowNumbers.{HasRanksBelow, step_by_row}
use Rattle.run_evidence.proofs.StepLines.{steps_below}
use Rattle.run_evidence.proofs.Bodies.{refusal_valid, refusal_text}
use Rattle.run_evidence.proofs.whole.evidence_against.Goals as goal

pub steps_by_row-requires : goal.steps_by_row-requires
steps_by_row-requires c =
    let case = case_loaded c.args.loaded.now in
    let below = steps_below case c.args.part [] (All-nil (λ rank. rank < length case.order)) c.args.steps.now c.requires.good.good in
    subst (λ (steps : List Step). All (λ step. HasRanksBelow (length c.case_of-case.result.now.order) step.source) steps) (sym c.as_slice-list.ensures)
    (subst (λ (d : CaseView). All (λ step. HasRanksBelow (length d.order) step.source) c.args.steps.now) (sym c.case_of-case.ensures.value) below)

pub returns-clause-valid : goal.returns-clause-valid
returns-clause-valid c =
    let order = (case_loaded c.args.loaded.now).order in
    let told = c.in_ok-told.ensures ∙ ap (λ (d : CaseView). map (step_by_row d.order) c.as_slice-list.result.now) c.case_of-case.ensures.value ∙ ap (map (step_by_row order)) c.as_slice-list.ensures in
    refusal_valid c.args.loaded.now c.requires.tellable c.args.part c.args.steps.now c.in_ok-evidence.evidence c.in_ok-evidence.ensures.kind
    (c.in_ok-evidence.ensures.body ∙ ap (λ (steps : List Step). body.Refusal steps) told) c.in_ok-evidence.ensures.lists c.requires.good

pub returns-clause-text : goal.returns-clause-text
returns-clause-text c =
    let order = (case_loaded c.args.loaded.now).order in
    let told = c.in_ok-told.ensures ∙ ap (λ (d : CaseView). map (step_by_row d.order) c.as_slice-list.result.now) c.case_of-case.ensures.value ∙ ap (map (step_by_row order)) c.as_slice-list.ensures in
    refusal_text c.args.loaded.now c.requires.tellable c.args.part c.args.steps.now c.in_ok-evidence.evidence c.in_ok-evidence.ensures.kind
    (c.in_ok-evidence.ensures.body ∙ ap (λ (steps : List Step). body.Refusal steps) told) c.in_ok-evidence.ensures.lists c.requires.good
