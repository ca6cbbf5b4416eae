-- The check of a refusal has no fault: it reads its files and makes a case of them.
use Rattle.std.proofs.Common.{◌≡◌, ◌<◌, ◌≤◌, ℕ, Bool, List, length, Option, Some, inl, inr, refl, subst, ◌∙◌, arith}
use Rattle.text_names.specs.declared.limits.Limits.{Limits}
use Rattle.io_edge.specs.Outside.{Files, IsLonger, with_file}
use Rattle.io_edge.specs.declared.outside.Role.{Role}
use Rattle.el_logic.specs.declared.types.Part.{Part}
use Rattle.el_logic.specs.declared.types.Side.{Side}
use Rattle.ofn_axiom.specs.declared.fault.DocFault.{DocFault}
use Rattle.ofn_axiom.specs.declared.fault.DocFault.TheVariants as doc
use Rattle.ofn_axiom.specs.declared.types.Mode.{Mode}
use Rattle.sssom_rows.specs.declared.fault.TableFault.{TableFault}
use Rattle.sssom_rows.specs.declared.fault.TableFault.TheVariants as table
use Rattle.sssom_rows.specs.Faults.{IsFirstTableFault}
use Rattle.case_load.specs.declared.documents.Documents.{Documents}
use Rattle.case_load.specs.declared.fault.LimitKind.TheVariants as limit
use Rattle.case_load.specs.declared.fault.LoadFault.{LoadFault}
use Rattle.case_load.specs.declared.fault.LoadFault.TheVariants as load
use Rattle.case_load.specs.declared.texts.Loaded.{Loaded}
use Rattle.case_load.specs.Loads.{AreRead, Inputs, IsLoaded}
use Rattle.case_load.specs.Faults.{HaveManyNodes, HaveManyRoles, IsFirstDocFault, IsFirstLoadFault, IsTooLarge}
use Rattle.status_lines.specs.declared.status.Status.TheVariants as status
use Rattle.status_lines.specs.Runs.{Run, mode_if}
use Rattle.command_words.specs.declared.types.FileNames.{FileNames}
use Rattle.repair_run.specs.Commands.{request_of}
use Rattle.repair_run.specs.Outcomes.{IsIncoherentCase, IsRefusalEvidence}
use Rattle.repair_run.specs.Run.{HoldsEvidence, IsReadIn, IsRun}
use Rattle.check_run.specs.declared.reading.CheckTexts.{CheckTexts}
use Rattle.check_run.specs.declared.status.CheckStatus.{CheckStatus}
use Rattle.check_run.specs.declared.status.CheckStatus.TheVariants as answer
use Rattle.check_run.specs.Files.{AreRefusalTexts, IsAsked, IsFirstFaultFor, IsOverlong, IsReachedFor, inputs_of}
use Rattle.check_run.specs.Check.{IsOrMemory}
use Rattle.whole_run.specs.Checks.{refusal_check_of, IsCheckedAfter}
use Rattle.whole_run.proofs.Names.{AreApart}
use Rattle.whole_run.proofs.Valid.{ReadAgain}
use Rattle.whole_run.proofs.Left.{of_told, other_file}
use Rattle.whole_run.proofs.Bare.{OneTable, bare_has_no_fault}
use Rattle.whole_run.proofs.Refused.{OneReading, of_run, refused_yes}

-- the laws of lower crates that this rests on
pub record Cited : Type 0 where
  pub read_again : ReadAgain
  pub one_reading : OneReading
  pub one_table : OneTable
  pub never_both : (texts : Inputs) (mode : Mode) (limits : Limits) (loaded : Loaded) (fault : LoadFault) → IsLoaded texts mode limits loaded
      → IsFirstLoadFault texts mode limits fault → ⊥

-- a fault of the table is one of its text
map_fault : (texts : Inputs) (mode : Mode) (limits : Limits) (fault : TableFault) → IsFirstLoadFault texts mode limits (load.Table fault)
    → IsFirstTableFault limits.rows texts.map fault
map_fault texts mode limits table.TooManyRows h = absurd h
map_fault texts mode limits fault h = h.map_fault

-- a file that is no longer than this is not longer
not_longer : (most : ℕ) (held : Option (List ℕ)) (text : List ℕ) → held ≡ Some text → length text ≤ most → IsLonger held most → ⊥
not_longer most held text is within longer =
    let above : most < length text = subst (λ (o : Option (List ℕ)). IsLonger o most) is longer in
    omega (arith, above, within)

module _ (cited : Cited) (el_part : Bool) (names : FileNames) (apart : AreApart names) (limits : Limits) (run check : Run) (part : Part) (class : List ℕ)
    (status_of : CheckStatus) (after : IsCheckedAfter run check (refusal_check_of el_part names) limits status_of) (i : IsIncoherentCase (IsReadIn run (request_of el_part names) limits) part class)
    (bytes : List ℕ) (evidence : IsRefusalEvidence i.loaded part bytes) (found : check.folder.files ≡ Some (with_file after.files names.evidence bytes)) where
  abbrev AreTexts : CheckTexts → Type 0
  AreTexts texts = AreRefusalTexts check.folder names.left names.right names.evidence limits.file_bytes texts

  -- what is said of the documents of the check holds of those of the run
  documents_of_run : (texts : CheckTexts) → AreTexts texts → (P : List ℕ → List ℕ → Type 0) → P texts.left texts.right → P i.read.texts.left i.read.texts.right
  documents_of_run texts are P h = of_run el_part names apart limits run check after.files after.told bytes found i.read.texts i.read.files texts are P h

  -- those have no fault
  none_of_run : (fault : LoadFault) → IsFirstLoadFault i.read.texts (mode_if el_part) limits fault → ⊥
  none_of_run fault first = cited.never_both i.read.texts (mode_if el_part) limits i.loaded fault i.read.from_texts first

  document_fault : (texts : CheckTexts) → AreTexts texts → (side : Side) (fault : DocFault) → IsFirstDocFault texts.left texts.right (mode_if el_part) limits side fault
      → IsFirstDocFault i.read.texts.left i.read.texts.right (mode_if el_part) limits side fault
  document_fault texts are side fault h = documents_of_run texts are (λ left right. IsFirstDocFault left right (mode_if el_part) limits side fault) h

  -- nor are they too large
  too_large : (texts : CheckTexts) → AreTexts texts → (Holds : Documents → Type 0) → IsTooLarge (inputs_of texts) (mode_if el_part) limits Holds → IsTooLarge i.read.texts (mode_if el_part) limits Holds
  too_large texts are Holds h = record {
    documents = h.documents;
    table = i.read.from_texts.table;
    read = record {
      documents_read = documents_of_run texts are (λ left right. AreRead left right (mode_if el_part) limits h.documents) h.read.documents_read;
      table_read = i.read.from_texts.read.table_read;
    };
    too_large = h.too_large;
  }

  -- the table without rows has no fault
  no_table_fault : (texts : CheckTexts) → AreTexts texts → (fault : TableFault) → IsFirstTableFault limits.rows texts.map fault → ⊥
  no_table_fault texts are fault h =
      bare_has_no_fault cited.one_table limits.rows fault (subst (λ (map : List ℕ). IsFirstTableFault limits.rows map fault) are.no_rows h)

  -- a file that is read is one that is asked for
  asked : (file : Role) → IsReachedFor check.folder (refusal_check_of el_part names) limits.file_bytes file → IsAsked (refusal_check_of el_part names) file
  asked Role.Left h = tt
  asked Role.Right h = tt
  asked Role.Evidence h = tt
  asked Role.Map h = absurd h
  asked Role.Out h = absurd h

  -- a document is as it was, so it is not too long
  short : (name text : List ℕ) → with_file after.files names.evidence bytes name ≡ Some text → length text ≤ limits.file_bytes
      → IsOverlong check.folder name limits.file_bytes Role.Left → ⊥
  short name text is within longer =
      not_longer limits.file_bytes (with_file after.files names.evidence bytes name) text is within
      (of_told (λ (files : Files). IsLonger (files name) limits.file_bytes) check.folder.files (with_file after.files names.evidence bytes) found longer)

  left_short : IsOverlong check.folder names.left limits.file_bytes Role.Left → ⊥
  left_short longer =
      let then = of_told (λ (files : Files). files names.left ≡ Some i.read.texts.left) run.folder.files after.files after.told i.read.files.left.1 in
      short names.left i.read.texts.left (other_file after.files names.evidence names.left bytes apart.evidence_left ∙ then) i.read.files.left.0 longer

  right_short : IsOverlong check.folder names.right limits.file_bytes Role.Left → ⊥
  right_short longer =
      let then = of_told (λ (files : Files). files names.right ≡ Some i.read.texts.right) run.folder.files after.files after.told i.read.files.right.1 in
      short names.right i.read.texts.right (other_file after.files names.evidence names.right bytes apart.evidence_right ∙ then) i.read.files.right.0 longer

  -- so the check has no fault
  no_fault : (fault : LoadFault) → IsFirstFaultFor check.folder check.folder_after (refusal_check_of el_part names) limits fault → ⊥
  no_fault (load.ReadFault file) h = after.no_fault.reads file (asked file h.0) h.1
  no_fault (load.Syntax side place kind) h = none_of_run (load.Syntax side place kind) (document_fault h.texts h.files side (doc.Syntax place kind) h.of_texts)
  no_fault (load.Profile side place head) h = none_of_run (load.Profile side place head) (document_fault h.texts h.files side (doc.Profile place head) h.of_texts)
  no_fault (load.Limit (limit.Bytes Role.Left)) h = left_short h.1
  no_fault (load.Limit (limit.Bytes Role.Right)) h = right_short h.1
  no_fault (load.Limit (limit.Bytes Role.Map)) h = absurd h.0
  no_fault (load.Limit (limit.Bytes Role.Out)) h = absurd h.0
  no_fault (load.Limit (limit.Bytes Role.Evidence)) h = absurd h.1
  no_fault (load.Limit (limit.Depth side)) h = none_of_run (load.Limit (limit.Depth side)) (document_fault h.texts h.files side doc.TooDeep h.of_texts)
  no_fault (load.Limit (limit.Classes side)) h = none_of_run (load.Limit (limit.Classes side)) (document_fault h.texts h.files side doc.TooManyClasses h.of_texts)
  no_fault (load.Limit (limit.Properties side)) h = none_of_run (load.Limit (limit.Properties side)) (document_fault h.texts h.files side doc.TooManyProperties h.of_texts)
  no_fault (load.Limit limit.Rows) h = no_table_fault h.texts h.files table.TooManyRows h.of_texts.map_fault
  no_fault (load.Limit limit.Nodes) h = none_of_run (load.Limit limit.Nodes) (too_large h.texts h.files (HaveManyNodes limits) h.of_texts)
  no_fault (load.Limit limit.Roles) h = none_of_run (load.Limit limit.Roles) (too_large h.texts h.files (HaveManyRoles limits) h.of_texts)
  no_fault (load.Table fault) h = no_table_fault h.texts h.files fault (map_fault (inputs_of h.texts) (mode_if el_part) limits fault h.of_texts)
  no_fault load.OutOfMemory h = h.of_texts

-- so the answer is yes
module _ (cited : Cited) (el_part : Bool) (names : FileNames) (apart : AreApart names) (limits : Limits) (run check : Run) (part : Part) (class : List ℕ)
    (i : IsIncoherentCase (IsReadIn run (request_of el_part names) limits) part class) (bytes : List ℕ) (evidence : IsRefusalEvidence i.loaded part bytes) where
  yes_by : (s : CheckStatus) (after : IsCheckedAfter run check (refusal_check_of el_part names) limits s)
      → check.folder.files ≡ Some (with_file after.files names.evidence bytes) → IsOrMemory answer.Yes s
  yes_by answer.Yes after found = inl refl
  yes_by answer.OutOfMemory after found = inr refl
  yes_by (answer.No item) after found =
      let bad = after.checked.no item refl in
      refused_yes cited.one_reading cited.read_again el_part names apart limits run check part class (answer.No item) after i bytes evidence found bad.0
  yes_by answer.Words after found = absurd (after.checked.words refl)
  yes_by (answer.ReadFault file) after found =
      absurd (no_fault cited el_part names apart limits run check part class _ after i bytes evidence found (load.ReadFault file) (after.checked.read_fault file refl))
  yes_by (answer.Syntax side place kind) after found =
      absurd (no_fault cited el_part names apart limits run check part class _ after i bytes evidence found (load.Syntax side place kind) (after.checked.syntax side place kind refl))
  yes_by (answer.Profile side place head) after found =
      absurd (no_fault cited el_part names apart limits run check part class _ after i bytes evidence found (load.Profile side place head) (after.checked.profile side place head refl))
  yes_by (answer.Table fault) after found =
      absurd (no_fault cited el_part names apart limits run check part class _ after i bytes evidence found (load.Table fault) (after.checked.table fault refl))
  yes_by (answer.Limit kind) after found =
      absurd (no_fault cited el_part names apart limits run check part class _ after i bytes evidence found (load.Limit kind) (after.checked.limit kind refl))
  yes_by (answer.WriteFault what) after found = absurd (after.no_fault.put (after.checked.write_fault what refl).1)

-- a refusal is answered yes
pub refusal_answered : Cited → (el_part : Bool) (names : FileNames) → AreApart names → (limits : Limits) (run check : Run) (part : Part) (class : List ℕ) (s : CheckStatus)
    → IsRun run (request_of el_part names) limits (status.Incoherent part class) → IsCheckedAfter run check (refusal_check_of el_part names) limits s → IsOrMemory answer.Yes s
refusal_answered cited el_part names apart limits run check part class s is after =
    let whole = is.files in
    let held = of_told (λ (files : Files). HoldsEvidence run files names whole.1) run.folder.files after.files after.told whole.3 in
    yes_by cited el_part names apart limits run check part class whole.0 whole.1 whole.2 s after (after.left ∙ held)
