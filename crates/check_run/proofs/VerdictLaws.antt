-- What valid evidence shows, as a verdict.
use Rattle.std.proofs.Common.{ℕ, List}
use Rattle.std.specs.Prelude.{Bool, Option, Some, None}
use Rattle.text_names.specs.declared.limits.Limits.{Limits}
use Rattle.el_logic.specs.declared.types.Part.{Part}
use Rattle.el_logic.specs.Incoherent.{IsIncoherent, axioms_of_part}
use Rattle.ofn_axiom.specs.declared.types.Mode.{Mode}
use Rattle.case_load.specs.Loads.{Inputs, IsLoaded}
use Rattle.case_load.specs.declared.texts.Loaded.{Loaded}
use Rattle.evidence_text.specs.declared.types.Evidence.{Evidence}
use Rattle.valid_evidence.specs.Items.{case_loaded}
use Rattle.valid_evidence.specs.Shown.{IsRepairedOut}
use Rattle.valid_evidence.specs.Valid.{IsValidEvidence, IsValidRefusal}
use Rattle.check_items.specs.declared.item.BadItem.{BadItem}
use Rattle.command_words.specs.declared.types.FileNames.{FileNames}
use Rattle.command_words.specs.declared.types.CheckWords.TheVariants as check
use Rattle.check_run.specs.declared.reading.CheckTexts.{CheckTexts}
use Rattle.check_run.specs.Files.{inputs_of}
use Rattle.check_run.specs.Verdicts.{IsVerdictOn}
use Rattle.check_run.specs.Inside.Stages.{IsCaseOfTexts, IsRefusedAnswer, IsRunAnswer}

module _ (loaded : Loaded) (texts : CheckTexts) (made : IsCaseOfTexts texts loaded) where
  -- what is known of valid evidence: it shows the repair
  abbrev ShowsRepair : Type 0
  ShowsRepair = (texts : Inputs) (mode : Mode) (limits : Limits) (out : List ℕ) (e : Evidence) → IsLoaded texts mode limits loaded
      → IsValidEvidence loaded out e → IsRepairedOut loaded out

  pub run_verdict : ShowsRepair → (el_part : Bool) (names : FileNames) (answer : Option BadItem) → IsRunAnswer loaded texts answer
      → IsVerdictOn (check.Repair el_part names) loaded texts answer
  run_verdict law el_part names None v = (v, law (inputs_of texts) made.0 made.1 texts.out v.0 made.2 v.2)
  run_verdict law el_part names (Some bad) h = h

  -- and that of a refusal shows that its part is incoherent
  abbrev ShowsRefusal : Type 0
  ShowsRefusal = let case = case_loaded loaded in (texts : Inputs) (mode : Mode) (limits : Limits) (part : Part) (e : Evidence) → IsLoaded texts mode limits loaded
      → IsValidRefusal loaded part e → IsIncoherent case.classes case.properties (axioms_of_part case.left case.right part)

  pub refused_verdict : ShowsRefusal → (el_part : Bool) (left right evidence : List ℕ) (answer : Option BadItem) → IsRefusedAnswer loaded texts answer
      → IsVerdictOn (check.Refusal el_part left right evidence) loaded texts answer
  refused_verdict law el_part left right evidence None v = (v.0, v.1, v.2, v.3, law (inputs_of texts) made.0 made.1 v.0 v.1 made.2 v.3)
  refused_verdict law el_part left right evidence (Some bad) h = h
