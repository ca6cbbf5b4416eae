-- The evidence of a refusal, as the check of it reads it: with a table that has no rows.
use Rattle.std.proofs.Common.{◌≡◌, ℕ, Bool, List, map, Some, sym, ap, subst, ◌∙◌}
use Rattle.std.specs.Arc.{arc_value}
use Rattle.byte_words.specs.Fronts.{without_mark}
use Rattle.text_names.specs.declared.limits.Limits.{Limits}
use Rattle.io_edge.specs.Outside.{Files, with_file}
use Rattle.el_logic.specs.declared.types.Part.{Part}
use Rattle.ofn_axiom.specs.declared.types.Document.{Document}
use Rattle.ofn_axiom.specs.declared.types.Mode.{Mode}
use Rattle.ofn_axiom.specs.declared.types.Names.{Names}
use Rattle.ofn_axiom.specs.Documents.{IsReading}
use Rattle.sssom_rows.specs.declared.table.Table.{Table}
use Rattle.case_file.specs.Cases.{CaseView, case_of}
use Rattle.case_load.specs.declared.documents.Documents.{Documents}
use Rattle.case_load.specs.declared.texts.Loaded.{Loaded}
use Rattle.case_load.specs.Folders.{AreFiles}
use Rattle.case_load.specs.Loads.{AreRead, Inputs, IsCaseOf, input_of, no_names}
use Rattle.evidence_text.specs.declared.types.Body.{Body}
use Rattle.evidence_text.specs.declared.types.Body.TheVariants as body
use Rattle.evidence_text.specs.declared.types.Evidence.{Evidence}
use Rattle.evidence_text.specs.EvidenceText.{plain}
use Rattle.evidence_text.specs.Reading.{text_read}
use Rattle.valid_evidence.specs.Items.{case_loaded, line_of_node, line_of_role}
use Rattle.valid_evidence.specs.Valid.{IsRefusalBody, IsValidRefusal}
use Rattle.status_lines.specs.Runs.{Run, mode_if}
use Rattle.command_words.specs.declared.types.FileNames.{FileNames}
use Rattle.repair_run.specs.Commands.{request_of}
use Rattle.repair_run.specs.Run.{IsReadIn}
use Rattle.repair_run.specs.Outcomes.{IsIncoherentCase, IsRefusalEvidence, inputs_named}
use Rattle.check_run.specs.declared.reading.CheckTexts.{CheckTexts}
use Rattle.check_run.specs.declared.status.CheckStatus.{CheckStatus}
use Rattle.check_run.specs.declared.status.CheckStatus.TheVariants.{Yes}
use Rattle.check_run.specs.Files.{AreRefusalTexts}
use Rattle.check_run.specs.Check.{Checked, IsOrMemory}
use Rattle.whole_run.specs.Checks.{refusal_check_of, IsCheckedAfter}
use Rattle.whole_run.proofs.Names.{AreApart}
use Rattle.whole_run.proofs.Valid.{ReadAgain, refusal_valid_plain}
use Rattle.whole_run.proofs.Left.{of_told, other_file, own_file}
use Rattle.whole_run.proofs.NoRows.{shown_again}

-- a document has one reading
abbrev pub OneReading : Type 0
OneReading = (text : List ℕ) (mode : Mode) (depth : ℕ) (old new other : Names) (document another : Document)
    → IsReading text mode depth old new document → IsReading text mode depth old other another → (document ≡ another) × (new ≡ other)

-- so both documents have one
same_documents : OneReading → (left right : List ℕ) (mode : Mode) (limits : Limits) (one other : Documents)
    → AreRead left right mode limits one → AreRead left right mode limits other → one ≡ other
same_documents law left right mode limits one other first second =
    let lefts = law (without_mark left) mode limits.depth (no_names limits) first.left_names second.left_names one.left other.left first.left_read second.left_read in
    let read = subst (λ (names : Names). IsReading (without_mark right) mode limits.depth names other.names other.right) (sym lefts.1) second.right_read in
    let rights = law (without_mark right) mode limits.depth first.left_names one.names other.names one.right other.right first.right_read read in
    λ i. record { left = lefts.0 i; right = rights.0 i; names = rights.1 i }

module _ (limits : Limits) (documents : Documents) (table bare : Table) (loaded again : Loaded)
    (made : IsCaseOf limits documents table loaded) (made_again : IsCaseOf limits documents bare again) (part : Part) where
  abbrev case : CaseView
  case = case_of (input_of documents table made.order)

  abbrev case_again : CaseView
  case_again = case_of (input_of documents bare made_again.order)

  -- what is shown of a part is shown with the other table
  body_again : (b : Body) → IsRefusalBody (case_loaded loaded) part b → IsRefusalBody (case_loaded again) part b
  body_again (body.Diagnosis removed model journal) h = absurd h
  body_again (body.Refusal steps) h =
      subst (λ (c : CaseView). IsRefusalBody c part (body.Refusal steps)) (sym made_again.case)
      (shown_again documents table bare made.order made_again.order part steps
      (subst (λ (c : CaseView). IsRefusalBody c part (body.Refusal steps)) made.case h))

  -- evidence of a refusal doesn't depend on the table
  pub refusal_again : (e : Evidence) → IsValidRefusal loaded part e → IsValidRefusal again part e
  refusal_again e h =
      let left = made.left_omitted ∙ sym made_again.left_omitted in
      let right = made.right_omitted ∙ sym made_again.right_omitted in
      let nodes = λ (names : Names) (c : CaseView). map (line_of_node names.classes.names) c.store.nodes in
      let roles = λ (names : Names) (c : CaseView). map (line_of_role names.roles.names) c.store.roles in
      record {
        kind = h.kind;
        lists = record {
          omitted = h.lists.omitted ∙ (λ i. record { left = left i; right = right i });
          nodes = h.lists.nodes ∙ ap (λ (n : Names). nodes n (arc_value loaded.case)) made.names ∙ ap (λ (c : CaseView). nodes documents.names c) made.case
              ∙ sym (ap (λ (n : Names). nodes n (arc_value again.case)) made_again.names ∙ ap (λ (c : CaseView). nodes documents.names c) made_again.case);
          roles = h.lists.roles ∙ ap (λ (n : Names). roles n (arc_value loaded.case)) made.names ∙ ap (λ (c : CaseView). roles documents.names c) made.case
              ∙ sym (ap (λ (n : Names). roles n (arc_value again.case)) made_again.names ∙ ap (λ (c : CaseView). roles documents.names c) made_again.case);
        };
        body = body_again e.body h.body;
      }

-- a file has one text
one_text : (one other : List ℕ) → Some one ≡ Some other → one ≡ other
one_text one other h = cc

module _ (el_part : Bool) (names : FileNames) (apart : AreApart names) (limits : Limits) (run check : Run) (before : Files) (told : run.folder.files ≡ Some before)
    (bytes : List ℕ) (found : check.folder.files ≡ Some (with_file before names.evidence bytes)) (ran : Inputs)
    (were : AreFiles run.folder (inputs_named names) limits.file_bytes ran) (texts : CheckTexts)
    (are : AreRefusalTexts check.folder names.left names.right names.evidence limits.file_bytes texts) where
  -- the check reads the documents that the run read, and the evidence that it left
  pub same_left : texts.left ≡ ran.left
  same_left =
      let now = of_told (λ (files : Files). files names.left ≡ Some texts.left) check.folder.files (with_file before names.evidence bytes) found are.left_text.1 in
      let then = of_told (λ (files : Files). files names.left ≡ Some ran.left) run.folder.files before told were.left.1 in
      one_text texts.left ran.left (sym now ∙ other_file before names.evidence names.left bytes apart.evidence_left ∙ then)

  pub same_right : texts.right ≡ ran.right
  same_right =
      let now = of_told (λ (files : Files). files names.right ≡ Some texts.right) check.folder.files (with_file before names.evidence bytes) found are.right_text.1 in
      let then = of_told (λ (files : Files). files names.right ≡ Some ran.right) run.folder.files before told were.right.1 in
      one_text texts.right ran.right (sym now ∙ other_file before names.evidence names.right bytes apart.evidence_right ∙ then)

  pub same_evidence : texts.evidence ≡ bytes
  same_evidence =
      let now = of_told (λ (files : Files). files names.evidence ≡ Some texts.evidence) check.folder.files (with_file before names.evidence bytes) found are.evidence_text in
      one_text texts.evidence bytes (sym now ∙ own_file before names.evidence bytes)

  -- so what is said of the documents of the one holds of those of the other
  pub of_run : (P : List ℕ → List ℕ → Type 0) → P texts.left texts.right → P ran.left ran.right
  of_run P h = subst (λ (text : List ℕ). P ran.left text) same_right (subst (λ (text : List ℕ). P text texts.right) same_left h)

module _ (reading : OneReading) (read_again : ReadAgain) (el_part : Bool) (names : FileNames) (apart : AreApart names) (limits : Limits) (run check : Run) (part : Part) (class : List ℕ)
    (answer : CheckStatus) (after : IsCheckedAfter run check (refusal_check_of el_part names) limits answer) (i : IsIncoherentCase (IsReadIn run (request_of el_part names) limits) part class)
    (bytes : List ℕ) (evidence : IsRefusalEvidence i.loaded part bytes) (found : check.folder.files ≡ Some (with_file after.files names.evidence bytes))
    (c : Checked check (refusal_check_of el_part names) limits) where
  -- the documents are the same
  one_pair : i.read.from_texts.documents ≡ c.read.case.documents
  one_pair =
      let read = of_run el_part names apart limits run check after.files after.told bytes found i.read.texts i.read.files c.texts c.read.files
      (λ left right. AreRead left right (mode_if el_part) limits c.read.case.documents) c.read.case.read.documents_read in
      same_documents reading i.read.texts.left i.read.texts.right (mode_if el_part) limits i.read.from_texts.documents c.read.case.documents i.read.from_texts.read.documents_read read

  -- and the evidence is valid
  valid : (e : Evidence) → IsValidRefusal i.loaded part e → IsValidRefusal c.loaded part e
  valid e h =
      let made = subst (λ (d : Documents). IsCaseOf limits d i.read.from_texts.table i.loaded) one_pair i.read.from_texts.made in
      refusal_again limits c.read.case.documents i.read.from_texts.table c.read.case.table i.loaded c.loaded made c.read.case.made part e h

  -- so a check that makes a case of its files answers yes
  pub refused_yes : IsOrMemory Yes answer
  refused_yes =
      let same = same_evidence el_part names apart limits run check after.files after.told bytes found i.read.texts i.read.files c.texts c.read.files in
      of_told _ check.folder.files (with_file after.files names.evidence bytes) found after.checked.yes_answer after.no_fault c (
        part,
        plain evidence.0,
        ap text_read (same ∙ evidence.4) ∙ read_again evidence.0 evidence.2 evidence.3,
        refusal_valid_plain c.loaded part evidence.0 (valid evidence.0 evidence.1),
      )
