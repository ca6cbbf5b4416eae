-- Valid evidence has no item that fails.
use Rattle.std.proofs.Common.{◌≡◌, ℕ, List, [], sym, ◌∙◌, subst, ⊎_elim}
use Rattle.std.specs.Prelude.{Result, Ok, Err}
use Rattle.el_logic.specs.declared.types.Part.{Part}
use Rattle.derivation.specs.declared.types.Step.{Step}
use Rattle.derivation.specs.declared.types.BadStep.{BadStep}
use Rattle.derivation.specs.declared.types.BadStep.TheVariants as Bad
use Rattle.derivation.specs.Steps.{IsAnswer}
use Rattle.case_file.specs.Cases.{CaseView}
use Rattle.case_load.specs.declared.texts.Loaded.{Loaded}
use Rattle.evidence_lines.specs.declared.types.Kind.{Kind}
use Rattle.evidence_lines.specs.declared.types.Kind.TheVariants as kind
use Rattle.evidence_text.specs.declared.types.Body.{Body}
use Rattle.evidence_text.specs.declared.types.Body.TheVariants as body
use Rattle.evidence_text.specs.declared.types.Evidence.{Evidence}
use Rattle.evidence_text.specs.Reading.{text_read}
use Rattle.valid_evidence.specs.Rows.{steps_by_rank}
use Rattle.valid_evidence.specs.Items.{case_loaded}
use Rattle.valid_evidence.specs.Valid.{HasLists, IsRefusalBody, IsValidEvidence, IsValidRefusal}
use Rattle.check_items.specs.declared.item.BadItem.{BadItem}
use Rattle.check_items.specs.declared.item.BadItem.TheVariants as item
use Rattle.check_items.specs.Bad.{HasRefusal, IsBadEvidence, IsBadPartBody, IsBadRefusal, IsListFault}
use Rattle.command_words.specs.declared.types.CheckWords.{CheckWords}
use Rattle.command_words.specs.declared.types.CheckWords.TheVariants as check
use Rattle.check_run.specs.declared.reading.CheckTexts.{CheckTexts}
use Rattle.check_run.specs.Verdicts.{IsBadFor, IsNoEvidence, IsShownFor, IsValidFor}

-- what is known of items: none of valid evidence fails
abbrev pub NoItemFails : Type 0
NoItemFails = (loaded : Loaded) (out : List ℕ) (e : Evidence) (bad : BadItem) → IsValidEvidence loaded out e → IsBadEvidence loaded out e bad → ⊥

-- and of steps: they have one answer
abbrev pub OneStepsAnswer : Type 0
OneStepsAnswer = (case : CaseView) (part : Part) (ranks : List ℕ) (steps : List Step) (one other : Result (Unit {0}) BadStep)
    → IsAnswer case part ranks steps one → IsAnswer case part ranks steps other → one ≡ other

-- a text that is read has no fault
read_or_not : (text : List ℕ) (e : Evidence) (bad : BadItem) → text_read text ≡ Ok e → IsNoEvidence text bad → ⊥
read_or_not text e item.Version read none = let both = sym read ∙ none in cc
read_or_not text e (item.Line number) read none = let both = sym read ∙ none in cc
read_or_not text e (item.Length number) read none = let both = sym read ∙ none in cc
read_or_not text e _ read none = absurd none

-- and is read as one value
one_value : (text : List ℕ) (e other : Evidence) → text_read text ≡ Ok e → text_read text ≡ Ok other → other ≡ e
one_value text e other read again = let both : Ok other ≡ Ok e = sym again ∙ read in cc

-- the right lists
lists_are_right : (loaded : Loaded) (e : Evidence) (bad : BadItem) → HasLists loaded e → IsListFault loaded e bad → ⊥
lists_are_right loaded e item.Omitted lists h = h lists.omitted
lists_are_right loaded e item.Nodes lists h = h.1 lists.nodes
lists_are_right loaded e item.Roles lists h = h.2 lists.roles
lists_are_right loaded e _ lists h = absurd h

module _ (steps_law : OneStepsAnswer) where
  -- the right steps
  steps_are_right : (case : CaseView) (part : Part) (b : Body) (bad : BadItem) → IsRefusalBody case part b → IsBadPartBody case part b bad → ⊥
  steps_are_right case part (body.Diagnosis removed model journal) bad v h = absurd v
  steps_are_right case part (body.Refusal steps) (item.Step row number) v h =
      let both = steps_law case part [] (steps_by_rank case.order steps) (Ok tt) (Err (Bad.Step number)) v h.1 in cc
  steps_are_right case part (body.Refusal steps) (item.Goal row) v h =
      let both = steps_law case part [] (steps_by_rank case.order steps) (Ok tt) (Err Bad.Goal) v h.1 in cc
  steps_are_right case part (body.Refusal steps) _ v h = absurd h

  has_refusal : (case : CaseView) (part : Part) (b : Body) → IsRefusalBody case part b → HasRefusal b
  has_refusal case part (body.Diagnosis removed model journal) v = absurd v
  has_refusal case part (body.Refusal steps) v = tt

  one_part : (k : Kind) (part other : Part) → k ≡ kind.Refusal part → k ≡ kind.Refusal other → other ≡ part
  one_part k part other is is' = let both : kind.Refusal other ≡ kind.Refusal part = sym is' ∙ is in cc

  -- a valid refusal
  refusal_is_right : (loaded : Loaded) (part : Part) (e : Evidence) (bad : BadItem) → IsValidRefusal loaded part e → IsBadRefusal loaded e bad → ⊥
  refusal_is_right loaded part e item.Kind v h = h part (v.kind, has_refusal (case_loaded loaded) part e.body v.body)
  refusal_is_right loaded part e bad v h =
      ⊎_elim (λ wrong. lists_are_right loaded e bad v.lists wrong)
      (λ wrong. steps_are_right (case_loaded loaded) part e.body bad v.body
      (subst (λ (p : Part). IsBadPartBody (case_loaded loaded) p e.body bad) (one_part e.kind part h.0 v.kind h.1.0) wrong.1)) h.2

  -- the evidence of a command
  pub valid_or_bad : NoItemFails → (command : CheckWords) (loaded : Loaded) (texts : CheckTexts) (bad : BadItem) → IsValidFor command loaded texts
      → IsBadFor command loaded texts bad → ⊥
  valid_or_bad law (check.Repair el_part names) loaded texts bad v h =
      ⊎_elim (λ none. read_or_not texts.evidence v.0 bad v.1 none)
      (λ wrong. law loaded texts.out v.0 bad v.2
      (subst (λ (e : Evidence). IsBadEvidence loaded texts.out e bad) (one_value texts.evidence v.0 wrong.0 v.1 wrong.1) wrong.2)) h
  valid_or_bad law (check.Refusal el_part left right evidence) loaded texts bad v h =
      ⊎_elim (λ none. read_or_not texts.evidence v.1 bad v.2 none)
      (λ wrong. refusal_is_right loaded v.0 v.1 bad v.3
      (subst (λ (e : Evidence). IsBadRefusal loaded e bad) (one_value texts.evidence v.1 wrong.0 v.2 wrong.1) wrong.2)) h

-- what is shown by valid evidence has valid evidence
pub shown_is_valid : (command : CheckWords) (loaded : Loaded) (texts : CheckTexts) → IsShownFor command loaded texts → IsValidFor command loaded texts
shown_is_valid (check.Repair el_part names) loaded texts h = h.0
shown_is_valid (check.Refusal el_part left right evidence) loaded texts h = (h.0, h.1, h.2, h.3)
