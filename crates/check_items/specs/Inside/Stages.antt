-- What each stage of the check answers.
use Rattle.std.specs.Prelude.{◌≡◌, ℕ, Bool, List, length, Result}
use Rattle.el_logic.specs.declared.types.Interp.{Interp}
use Rattle.el_logic.specs.declared.types.Part.{Part}
use Rattle.el_logic.specs.Meaning.{IsInterp}
use Rattle.fact_table.specs.declared.types.Source.{Source}
use Rattle.derivation.specs.declared.types.BadStep.{BadStep}
use Rattle.derivation.specs.declared.types.BadStep.TheVariants as Bad
use Rattle.derivation.specs.Steps.{IsAnswer}
use Rattle.accuse_core.specs.declared.journal.Entry.{Entry}
use Rattle.accuse_core.specs.Journal.{replayed}
use Rattle.case_file.specs.Cases.{CaseView}
use Rattle.model_check.specs.declared.types.ModelFault.TheVariants as fault
use Rattle.model_check.specs.Faults.{Spoils}
use Rattle.evidence_text.specs.declared.types.Removed.{Removed}
use Rattle.valid_evidence.specs.Rows.{ranks_left, ranks_up_to, rank_of_row, steps_by_rank}
use Rattle.valid_evidence.specs.Items.{IsRepliedJournal}
use Rattle.check_items.specs.declared.item.BadItem.{BadItem}
use Rattle.check_items.specs.declared.item.BadItem.TheVariants as item
use Rattle.check_items.specs.Firsts.{AreBadSteps, source_by_row, IsFirstUnreplied}
use Rattle.check_items.specs.Inside.Tables.{marks_by}

-- what the steps of a removed row are answered
abbrev pub IsRowAnswer : CaseView → List Removed → Removed → Result (Unit {0}) BadStep → Type 0
IsRowAnswer case removed r answer =
    IsAnswer case Part.Both (ranks_up_to (ranks_left removed case.order) (rank_of_row case.order r.row))
    (steps_by_rank case.order r.steps) answer

-- the item of a row whose steps are wrong
abbrev pub bad_row : ℕ → BadStep → BadItem
bad_row row (Bad.Step number) = item.Step row number
bad_row row Bad.Goal = item.Goal row

abbrev pub IsStepsFault : CaseView → List Removed → BadItem → Type 0
IsStepsFault case removed (item.Step row number) = AreBadSteps case removed row (Bad.Step number)
IsStepsFault case removed (item.Goal row) = AreBadSteps case removed row Bad.Goal
IsStepsFault case removed _ = ⊥

abbrev pub IsModelBad : CaseView → List ℕ → Interp → BadItem → Type 0
IsModelBad case ranks model item.Form = ¬ (IsInterp case.classes case.properties model)
IsModelBad case ranks model (item.Axiom source) = (ranked : Source)
    × Spoils case ranks model (fault.Axiom ranked) × (source ≡ source_by_row case.order ranked)
IsModelBad case ranks model (item.Class node) = Spoils case ranks model (fault.Class node)
IsModelBad case ranks model _ = ⊥

abbrev pub IsJournalFault : CaseView → List Bool → List Entry → BadItem → Type 0
IsJournalFault case keep entries (item.Journal number) =
    IsFirstUnreplied (length case.order) entries number
IsJournalFault case keep entries item.End = IsRepliedJournal case entries
    × ¬ (replayed (length case.order) entries ≡ marks_by keep case.order)
IsJournalFault case keep entries _ = ⊥
