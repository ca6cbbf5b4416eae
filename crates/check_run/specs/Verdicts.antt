-- What evidence is answered.
use Rattle.std.specs.Prelude.{◌≡◌, ◌⊎◌, ℕ, List, Option, Ok, Err, MatchOption}
use Rattle.el_logic.specs.declared.types.Part.{Part}
use Rattle.el_logic.specs.Incoherent.{IsIncoherent, axioms_of_part}
use Rattle.case_load.specs.declared.texts.Loaded.{Loaded}
use Rattle.evidence_text.specs.declared.types.Evidence.{Evidence}
use Rattle.evidence_text.specs.declared.types.EvidenceFault.TheVariants as fault
use Rattle.evidence_text.specs.Reading.{text_read}
use Rattle.valid_evidence.specs.Items.{case_loaded}
use Rattle.valid_evidence.specs.Valid.{IsValidEvidence, IsValidRefusal}
use Rattle.valid_evidence.specs.Shown.{IsRepairedOut}
use Rattle.check_items.specs.declared.item.BadItem.{BadItem}
use Rattle.check_items.specs.declared.item.BadItem.TheVariants as item
use Rattle.check_items.specs.Bad.{IsBadEvidence, IsBadRefusal}
use Rattle.command_words.specs.declared.types.CheckWords.{CheckWords}
use Rattle.command_words.specs.declared.types.CheckWords.TheVariants as check
use Rattle.check_run.specs.declared.reading.CheckTexts.{CheckTexts}

-- the text is no evidence, with this first fault
abbrev pub IsNoEvidence : List ℕ → BadItem → Type 0
IsNoEvidence text item.Version = text_read text ≡ Err fault.Version
IsNoEvidence text (item.Line number) = text_read text ≡ Err (fault.Line number)
IsNoEvidence text (item.Length number) = text_read text ≡ Err (fault.Length number)
IsNoEvidence text _ = ⊥

-- ---- a repair

-- EVIDENCE is the text of valid evidence for OUT
abbrev pub IsValidRun : Loaded → CheckTexts → Type 0
IsValidRun loaded texts =
    (e : Evidence) × (text_read texts.evidence ≡ Ok e) × IsValidEvidence loaded texts.out e

-- of all items this is the first that fails
abbrev pub IsBadRun : Loaded → CheckTexts → BadItem → Type 0
IsBadRun loaded texts bad = IsNoEvidence texts.evidence bad
    ⊎ ((e : Evidence) × (text_read texts.evidence ≡ Ok e) × IsBadEvidence loaded texts.out e bad)

-- ---- a refusal

-- EVIDENCE is the text of valid evidence that a part is incoherent
abbrev pub IsValidRefused : Loaded → CheckTexts → Type 0
IsValidRefused loaded texts = (part : Part) × (e : Evidence)
    × (text_read texts.evidence ≡ Ok e) × IsValidRefusal loaded part e

abbrev pub IsBadRefused : Loaded → CheckTexts → BadItem → Type 0
IsBadRefused loaded texts bad = IsNoEvidence texts.evidence bad
    ⊎ ((e : Evidence) × (text_read texts.evidence ≡ Ok e) × IsBadRefusal loaded e bad)

-- the axioms of the part that EVIDENCE names leave a class empty that must have a member
abbrev pub IsRefusedPart : Loaded → CheckTexts → Type 0
IsRefusedPart loaded texts = let case = case_loaded loaded in (part : Part) × (e : Evidence)
    × (text_read texts.evidence ≡ Ok e) × IsValidRefusal loaded part e
    × IsIncoherent case.classes case.properties (axioms_of_part case.left case.right part)

-- ---- both

-- every item holds
abbrev pub IsValidFor : CheckWords → Loaded → CheckTexts → Type 0
IsValidFor (check.Repair el_part names) loaded texts = IsValidRun loaded texts
IsValidFor (check.Refusal el_part left right evidence) loaded texts = IsValidRefused loaded texts

-- this is the first item that fails
abbrev pub IsBadFor : CheckWords → Loaded → CheckTexts → BadItem → Type 0
IsBadFor (check.Repair el_part names) loaded texts bad = IsBadRun loaded texts bad
IsBadFor (check.Refusal el_part left right evidence) loaded texts bad =
    IsBadRefused loaded texts bad

-- what valid evidence shows: that OUT is the table without exactly the rows that are accused, or
-- that the part which it names is incoherent
abbrev pub IsShownFor : CheckWords → Loaded → CheckTexts → Type 0
IsShownFor (check.Repair el_part names) loaded texts =
    IsValidRun loaded texts × IsRepairedOut loaded texts.out
IsShownFor (check.Refusal el_part left right evidence) loaded texts = IsRefusedPart loaded texts

-- the verdict: none of the items fails, or this is the first that does
abbrev pub IsVerdictOn : CheckWords → Loaded → CheckTexts → Option BadItem → Type 0
IsVerdictOn command loaded texts verdict =
    MatchOption verdict (IsShownFor command loaded texts) (IsBadFor command loaded texts)
