-- The files that a run leaves, as a check reads them.
use Rattle.std.proofs.Common.{◌≡◌, ℕ, Bool, true, false, cond, List, Option, Some, refl, sym, ap, subst, ◌∙◌, true≢false}
use Rattle.std.specs.Prelude.{bytes_eq, IfSome}
use Rattle.std.proofs.lemmas.Slice.Eq.{bytes_eq-Decides}
use Rattle.text_names.specs.declared.limits.Limits.{Limits}
use Rattle.io_edge.specs.Outside.{Files, FolderSeen, with_file}
use Rattle.case_load.specs.Folders.{IsFile}
use Rattle.status_lines.specs.declared.status.Status.TheVariants as status
use Rattle.status_lines.specs.Runs.{Run, mode_if}
use Rattle.command_words.specs.declared.types.FileNames.{FileNames}
use Rattle.repair_run.specs.Commands.{request_of}
use Rattle.repair_run.specs.declared.request.Request.{Request}
use Rattle.repair_run.specs.Outcomes.{out_text, AreLoaded}
use Rattle.repair_run.specs.Run.{HoldsBoth, IsReadIn, IsRun, Shown}
use Rattle.check_run.specs.declared.reading.CheckTexts.{CheckTexts}
use Rattle.check_run.specs.declared.status.CheckStatus.{CheckStatus}
use Rattle.check_run.specs.declared.status.CheckStatus.TheVariants.{Yes}
use Rattle.check_run.specs.Files.{IsHeld}
use Rattle.check_run.specs.Check.{Checked, IsOrMemory}
use Rattle.whole_run.specs.Checks.{check_of, IsCheckedAfter}
use Rattle.whole_run.proofs.Names.{AreApart}
use Rattle.whole_run.proofs.Valid.{ReadAgain, run_is_valid}

-- a file with another name is as before, and one with this name has the bytes
pub other_file : (files : Files) (name other bytes : List ℕ) → bytes_eq name other ≡ false → with_file files name bytes other ≡ files other
other_file files name other bytes differ = ap (λ (same : Bool). cond same (Some bytes) (files other)) differ

pub own_file : (files : Files) (name bytes : List ℕ) → with_file files name bytes name ≡ Some bytes
own_file files name bytes = ap (λ (same : Bool). cond same (Some bytes) (files name)) ((bytes_eq-Decides name name).1 refl)

-- what is said of files that are told
pub of_told : (P : Files → Type 0) (o : Option Files) (files : Files) → o ≡ Some files → IfSome o P → P files
of_told P o files is h = subst (λ (q : Option Files). IfSome q P) is h

pub if_told : (P : Files → Type 0) (o : Option Files) (files : Files) → o ≡ Some files → P files → IfSome o P
if_told P o files is h = subst (λ (q : Option Files). IfSome q P) (sym is) h

-- a file that is as before has the bytes that it had
pub file_stays : (old new : FolderSeen) (before after : Files) (name bytes : List ℕ) (most : ℕ) → old.files ≡ Some before → new.files ≡ Some after
    → after name ≡ before name → IsFile old name most bytes → IsFile new name most bytes
file_stays old new before after name bytes most was is same h =
    let held = of_told (λ (files : Files). files name ≡ Some bytes) old.files before was h.1 in
    (h.0, if_told (λ (files : Files). files name ≡ Some bytes) new.files after is (same ∙ held))

-- the texts of the five files of a run that is done
abbrev texts_of : (folder : FolderSeen) (asked : Request) (limits : Limits) → Shown (AreLoaded folder asked limits) → CheckTexts
texts_of folder asked limits s = record {
  left = s.outcome.read.texts.left;
  right = s.outcome.read.texts.right;
  map = s.outcome.read.texts.map;
  out = out_text s.outcome;
  evidence = s.evidence;
}

module _ (el_part : Bool) (names : FileNames) (apart : AreApart names) (limits : Limits) (run check : Run) (answer : CheckStatus)
    (after : IsCheckedAfter run check (check_of el_part names) limits answer) (s : Shown (IsReadIn run (request_of el_part names) limits))
    (held : HoldsBoth run after.files names s.evidence (out_text s.outcome)) where
  abbrev first : Files
  first = with_file after.files names.evidence s.evidence

  abbrev left : Files
  left = with_file first names.out (out_text s.outcome)

  found : check.folder.files ≡ Some left
  found = after.left ∙ held

  -- an input is as before
  input_stays : (name bytes : List ℕ) → bytes_eq names.evidence name ≡ false → bytes_eq names.out name ≡ false
      → IsFile run.folder name limits.file_bytes bytes → IsFile check.folder name limits.file_bytes bytes
  input_stays name bytes not_evidence not_out =
      file_stays run.folder check.folder after.files left name bytes limits.file_bytes after.told found
      (other_file first names.out name (out_text s.outcome) not_out ∙ other_file after.files names.evidence name s.evidence not_evidence)

  -- OUT and EVIDENCE have what the run wrote
  out_held : IsHeld check.folder names.out (out_text s.outcome)
  out_held = if_told (λ (files : Files). files names.out ≡ Some (out_text s.outcome)) check.folder.files left found (own_file first names.out (out_text s.outcome))

  evidence_held : IsHeld check.folder names.evidence s.evidence
  evidence_held = if_told (λ (files : Files). files names.evidence ≡ Some s.evidence) check.folder.files left found
      (other_file first names.out names.evidence (out_text s.outcome) apart.out_evidence
      ∙ own_file after.files names.evidence s.evidence)

  -- so the check reads what the run read, and what it left
  abbrev checked : Checked check (check_of el_part names) limits
  checked =
      let read = s.outcome.read in
      record {
        texts = texts_of run.folder (request_of el_part names) limits s;
        loaded = s.outcome.loaded;
        read = record {
          files = record {
            files = record {
              left = input_stays names.left read.texts.left apart.evidence_left apart.out_left read.files.left;
              right = input_stays names.right read.texts.right apart.evidence_right apart.out_right read.files.right;
              map = input_stays names.map read.texts.map apart.evidence_map apart.out_map read.files.map;
            };
            out = out_held;
            evidence = evidence_held;
          };
          case = read.from_texts;
        };
      }

  -- and answers yes
  pub answered : ReadAgain → IsOrMemory Yes answer
  answered again =
      of_told _ check.folder.files left found after.checked.yes_answer after.no_fault checked (run_is_valid again s.outcome.loaded (texts_of run.folder (request_of el_part names) limits s) s.valid)

-- a run that is done is answered yes
pub done_answered : ReadAgain → (el_part : Bool) (names : FileNames) → AreApart names → (limits : Limits) (run check : Run) (answer : CheckStatus) → IsRun run (request_of el_part names) limits status.Done
    → IsCheckedAfter run check (check_of el_part names) limits answer → IsOrMemory Yes answer
done_answered again el_part names apart limits run check answer is after =
    let done = is.done refl in
    let s = done.0 in
    answered el_part names apart limits run check answer after s
    (of_told (λ (files : Files). HoldsBoth run files names s.evidence (out_text s.outcome)) run.folder.files after.files after.told done.1) again
