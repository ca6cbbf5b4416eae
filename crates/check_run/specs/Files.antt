-- What a check reads, and the first fault of it.
use Rattle.std.specs.Prelude.{◌≡◌, ℕ, List, [], codes, Some, IfSome, ⊤}
use Rattle.text_names.specs.declared.limits.Limits.{Limits}
use Rattle.io_edge.specs.Outside.{FolderSeen, ReadsRose, IsLonger}
use Rattle.io_edge.specs.declared.outside.Role.{Role}
use Rattle.ofn_axiom.specs.declared.types.Mode.{Mode}
use Rattle.case_load.specs.Loads.{Inputs, inputs, IsLoaded}
use Rattle.case_load.specs.Faults.{IsFirstLoadFault}
use Rattle.case_load.specs.Folders.{IsFile, AreFiles, IsWhole}
use Rattle.case_load.specs.declared.texts.Loaded.{Loaded}
use Rattle.case_load.specs.declared.fault.LoadFault.{LoadFault}
use Rattle.case_load.specs.declared.fault.LoadFault.TheVariants as load
use Rattle.case_load.specs.declared.fault.LimitKind.TheVariants as limit
use Rattle.command_words.specs.declared.types.FileNames.{FileNames}
use Rattle.command_words.specs.declared.types.CheckWords.{CheckWords}
use Rattle.command_words.specs.declared.types.CheckWords.TheVariants as check
use Rattle.status_lines.specs.Runs.{mode_if}
use Rattle.check_run.specs.declared.reading.CheckTexts.{CheckTexts}

abbrev pub mode_of : CheckWords → Mode
mode_of (check.Repair el_part names) = mode_if el_part
mode_of (check.Refusal el_part left right evidence) = mode_if el_part

-- the name of each file of a command; the check of a refusal has three
abbrev pub name_in : CheckWords → Role → List ℕ
name_in (check.Repair el_part names) Role.Left = names.left
name_in (check.Repair el_part names) Role.Right = names.right
name_in (check.Repair el_part names) Role.Map = names.map
name_in (check.Repair el_part names) Role.Out = names.out
name_in (check.Repair el_part names) Role.Evidence = names.evidence
name_in (check.Refusal el_part left right evidence) Role.Left = left
name_in (check.Refusal el_part left right evidence) Role.Right = right
name_in (check.Refusal el_part left right evidence) Role.Evidence = evidence
name_in (check.Refusal el_part left right evidence) _ = []

abbrev pub IsAsked : CheckWords → Role → Type 0
IsAsked (check.Repair el_part names) file = ⊤
IsAsked (check.Refusal el_part left right evidence) Role.Map = ⊥
IsAsked (check.Refusal el_part left right evidence) Role.Out = ⊥
IsAsked (check.Refusal el_part left right evidence) _ = ⊤

-- if the folder tells its files, these are the bytes of this one, however many
abbrev pub IsHeld : FolderSeen → List ℕ → List ℕ → Type 0
IsHeld folder name bytes = IfSome folder.files (λ files. files name ≡ Some bytes)

abbrev pub IsThere : FolderSeen → List ℕ → Type 0
IsThere folder name = (bytes : List ℕ) × IsHeld folder name bytes

-- a table that has no rows: it stands for MAP in the check of a refusal
abbrev pub bare_table : List ℕ
bare_table = codes "subject_id\tpredicate_id\tobject_id\tconfidence\n"

abbrev pub inputs_of : CheckTexts → Inputs
inputs_of texts = inputs texts.left texts.right texts.map

-- the five files have these texts, and LEFT, RIGHT and MAP no more bytes than this
pub record AreRunTexts (folder : FolderSeen) (names : FileNames) (most : ℕ) (texts : CheckTexts)
    : Type 0 where
  pub files : AreFiles folder (inputs names.left names.right names.map) most (inputs_of texts)
  pub out : IsHeld folder names.out texts.out
  pub evidence : IsHeld folder names.evidence texts.evidence

-- the three files have these texts; the table has no rows, and there is no OUT
pub record AreRefusalTexts (folder : FolderSeen) (left right evidence : List ℕ) (most : ℕ)
    (texts : CheckTexts) : Type 0 where
  pub left_text : IsFile folder left most texts.left
  pub right_text : IsFile folder right most texts.right
  pub no_rows : texts.map ≡ bare_table
  pub no_out : texts.out ≡ []
  pub evidence_text : IsHeld folder evidence texts.evidence

-- the files of a command have these texts
abbrev pub AreTextsFor : FolderSeen → CheckWords → ℕ → CheckTexts → Type 0
AreTextsFor folder (check.Repair el_part names) most texts = AreRunTexts folder names most texts
AreTextsFor folder (check.Refusal el_part left right evidence) most texts =
    AreRefusalTexts folder left right evidence most texts

-- the files are read, and make this case
pub record IsRead (folder : FolderSeen) (command : CheckWords) (limits : Limits)
    (texts : CheckTexts) (loaded : Loaded) : Type 0 where
  pub files : AreTextsFor folder command limits.file_bytes texts
  pub case : IsLoaded (inputs_of texts) (mode_of command) limits loaded

-- ---- the first fault

-- the files before this one are there, and LEFT, RIGHT and MAP are not too long
abbrev pub IsRunReached : FolderSeen → FileNames → ℕ → Role → Type 0
IsRunReached folder names most Role.Left = ⊤
IsRunReached folder names most Role.Right = IsWhole folder names.left most
IsRunReached folder names most Role.Map =
    IsWhole folder names.left most × IsWhole folder names.right most
IsRunReached folder names most Role.Out =
    IsWhole folder names.left most × IsWhole folder names.right most
    × IsWhole folder names.map most
IsRunReached folder names most Role.Evidence =
    IsWhole folder names.left most × IsWhole folder names.right most
    × IsWhole folder names.map most × IsThere folder names.out

abbrev pub IsRefusalReached : FolderSeen → List ℕ → List ℕ → ℕ → Role → Type 0
IsRefusalReached folder left right most Role.Left = ⊤
IsRefusalReached folder left right most Role.Right = IsWhole folder left most
IsRefusalReached folder left right most Role.Evidence =
    IsWhole folder left most × IsWhole folder right most
IsRefusalReached folder left right most _ = ⊥

abbrev pub IsReachedFor : FolderSeen → CheckWords → ℕ → Role → Type 0
IsReachedFor folder (check.Repair el_part names) most file = IsRunReached folder names most file
IsReachedFor folder (check.Refusal el_part left right evidence) most file =
    IsRefusalReached folder left right most file

-- a file is longer than it may be, if the folder tells it; OUT and EVIDENCE may have any length
abbrev pub IsOverlong : FolderSeen → List ℕ → ℕ → Role → Type 0
IsOverlong folder name most Role.Out = ⊥
IsOverlong folder name most Role.Evidence = ⊥
IsOverlong folder name most _ = IfSome folder.files (λ files. IsLonger (files name) most)

-- it is not
abbrev pub IsNotOverlong : FolderSeen → List ℕ → ℕ → Role → Type 0
IsNotOverlong folder name most Role.Out = ⊤
IsNotOverlong folder name most Role.Evidence = ⊤
IsNotOverlong folder name most _ =
    IfSome folder.files (λ files. ¬ (IsLonger (files name) most))

-- of the files this is the first that could not be read: its count of faults rose
abbrev pub IsUnread : FolderSeen → FolderSeen → CheckWords → ℕ → Role → Type 0
IsUnread old new command most file =
    IsReachedFor old command most file × ReadsRose old new (name_in command file)
    × IsNotOverlong old (name_in command file) most file

-- of the files this is the first that is too long
abbrev pub IsTooLongFor : FolderSeen → CheckWords → ℕ → Role → Type 0
IsTooLongFor old command most file =
    IsReachedFor old command most file × IsOverlong old (name_in command file) most file

-- all files are read, and of their texts this is the first fault
pub record HaveFault (old : FolderSeen) (command : CheckWords) (limits : Limits)
    (fault : LoadFault) : Type 0 where
  pub texts : CheckTexts
  pub files : AreTextsFor old command limits.file_bytes texts
  pub of_texts : IsFirstLoadFault (inputs_of texts) (mode_of command) limits fault

-- the first fault: a file that is not read or too long, in the order LEFT, RIGHT, MAP, OUT,
-- EVIDENCE; then LEFT's, RIGHT's and MAP's text, too many nodes, too many roles
abbrev pub IsFirstFaultFor : FolderSeen → FolderSeen → CheckWords → Limits → LoadFault → Type 0
IsFirstFaultFor old new command limits (load.ReadFault file) =
    IsUnread old new command limits.file_bytes file
IsFirstFaultFor old new command limits (load.Limit (limit.Bytes file)) =
    IsTooLongFor old command limits.file_bytes file
IsFirstFaultFor old new command limits fault = HaveFault old command limits fault
