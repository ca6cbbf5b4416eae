-- A run, and a check of what it left.
use Rattle.std.specs.Prelude.{◌≡◌, ℕ, Bool, true, false, List, [], ◌∷◌, codes, Some}
use Rattle.text_names.specs.declared.limits.Limits.{Limits}
use Rattle.io_edge.specs.Outside.{Files}
use Rattle.status_lines.specs.Runs.{Run}
use Rattle.command_words.specs.declared.types.FileNames.{FileNames}
use Rattle.command_words.specs.declared.types.CheckWords.{CheckWords}
use Rattle.command_words.specs.declared.types.CheckWords.TheVariants as check
use Rattle.check_run.specs.declared.status.CheckStatus.{CheckStatus}
use Rattle.check_run.specs.Check.{HasNoFault, IsChecked}

-- the check of a repair with these files, and with the option or without it
abbrev pub check_of : Bool → FileNames → CheckWords
check_of el_part names = check.Repair el_part names

-- the check of a refusal with these files
abbrev pub refusal_check_of : Bool → FileNames → CheckWords
refusal_check_of el_part names = check.Refusal el_part names.left names.right names.evidence

-- words after the option, if it is given
abbrev pub with_mode : Bool → List (List ℕ) → List (List ℕ)
with_mode true words = codes "--el-part" ∷ words
with_mode false words = words

-- the words of these checks; all words after `--` are names
abbrev pub check_words : Bool → FileNames → List (List ℕ)
check_words el_part names = with_mode el_part
    (codes "--" ∷ names.left ∷ names.right ∷ names.map ∷ names.out ∷ names.evidence ∷ [])

abbrev pub refusal_words : Bool → FileNames → List (List ℕ)
refusal_words el_part names = codes "--refused" ∷ with_mode el_part
    (codes "--" ∷ names.left ∷ names.right ∷ names.evidence ∷ [])

-- the folder tells its files, the check finds them as the run left them, and nothing fails in it
pub record IsCheckedAfter (run check : Run) (command : CheckWords) (limits : Limits)
    (answer : CheckStatus) : Type 0 where
  pub files : Files
  pub told : run.folder.files ≡ Some files
  pub left : check.folder.files ≡ run.folder_after.files
  pub checked : IsChecked check command limits answer
  pub no_fault : HasNoFault check command
