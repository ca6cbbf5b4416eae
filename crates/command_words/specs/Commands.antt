-- When words are a command, and what it asks for.
use Rattle.std.specs.Prelude.{◌≡◌, ◌≤◌, ℕ, Bool, true, false, not, ◌&&◌, ◌||◌, ◌==◌, if◌then◌else◌, List, [], ◌∷◌, length, Option, Some, None, option_map, unwrap_or, bytes_eq}
use Rattle.std.specs.List.{list_all}
use Rattle.command_words.specs.declared.types.Program.TheVariants as program
use Rattle.command_words.specs.declared.types.Options.{Options}
use Rattle.command_words.specs.declared.types.Setting.TheVariants as setting
use Rattle.command_words.specs.declared.types.FileNames.{FileNames}
use Rattle.command_words.specs.declared.types.RepairWords.{RepairWords}
use Rattle.command_words.specs.declared.types.RepairWords.TheVariants as repair
use Rattle.command_words.specs.declared.types.CheckWords.{CheckWords}
use Rattle.command_words.specs.declared.types.CheckWords.TheVariants as check
use Rattle.command_words.specs.Words.{Given, Reads, nothing_given, most_of}

abbrev pub is_filled : List ℕ → Bool
is_filled name = not (length name == 0)

-- the five names: none is empty
abbrev pub files_named : List (List ℕ) → Option FileNames
files_named (left ∷ right ∷ map ∷ out ∷ evidence ∷ []) =
    if list_all is_filled (left ∷ right ∷ map ∷ out ∷ evidence ∷ []) then Some (record {
      left = left;
      right = right;
      map = map;
      out = out;
      evidence = evidence;
    }) else None
files_named _ = None

-- the name is that of LEFT, RIGHT or MAP
abbrev pub is_input : List ℕ → FileNames → Bool
is_input name names =
    bytes_eq name names.left || bytes_eq name names.right || bytes_eq name names.map

-- neither OUT nor EVIDENCE has the name of another file
abbrev pub has_own_outputs : FileNames → Bool
has_own_outputs names = not (is_input names.out names || is_input names.evidence names)
    && not (bytes_eq names.out names.evidence)

-- the value, if it passes the test
abbrev pub only_if : {A : Type 0} → (A → Bool) → Option A → Option A
only_if test None = None
only_if test (Some a) = if test a then Some a else None

-- without the option there are four workers
abbrev pub workers_of : Options → ℕ
workers_of options = unwrap_or options.workers 4

-- ---- `alod`: five names, or a made case and no name

abbrev pub repair_of : Option ℕ → Given → Option RepairWords
repair_of None given =
    option_map (λ names. repair.Files given.options.el_part (workers_of given.options) names)
    (only_if has_own_outputs (files_named given.names))
repair_of (Some size) given =
    if not given.options.el_part && length given.names == 0
    then Some (repair.Made size (workers_of given.options)) else None

-- the words are this command
pub record IsRepair (words : List (List ℕ)) (command : RepairWords) : Type 0 where
  pub given : Given
  pub reads : Reads program.Repair nothing_given words given
  pub asks : repair_of given.options.made given ≡ Some command

abbrev pub IsFromOneTo : ℕ → ℕ → Type 0
IsFromOneTo most number = (1 ≤ number) × (number ≤ most)

-- each number of a command is one that its option may have
abbrev pub HasNumbersInRange : RepairWords → Type 0
HasNumbersInRange (repair.Files el_part workers names) =
    IsFromOneTo (most_of setting.Workers) workers
HasNumbersInRange (repair.Made size workers) =
    IsFromOneTo (most_of setting.Made) size × IsFromOneTo (most_of setting.Workers) workers

-- ---- `alodcheck`: five names, or three for a refusal

abbrev pub refusal_named : Bool → List (List ℕ) → Option CheckWords
refusal_named el_part (left ∷ right ∷ evidence ∷ []) =
    if list_all is_filled (left ∷ right ∷ evidence ∷ [])
    then Some (check.Refusal el_part left right evidence) else None
refusal_named el_part _ = None

abbrev pub check_of : Bool → Given → Option CheckWords
check_of false given =
    option_map (λ names. check.Repair given.options.el_part names) (files_named given.names)
check_of true given = refusal_named given.options.el_part given.names

-- the words are this command
pub record IsCheck (words : List (List ℕ)) (command : CheckWords) : Type 0 where
  pub given : Given
  pub reads : Reads program.Check nothing_given words given
  pub asks : check_of given.options.refused given ≡ Some command
