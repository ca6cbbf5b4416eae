-- What the files of a folder have: texts of which there is one case, or a first fault.
use Rattle.std.specs.Prelude.{◌≡◌, ℕ, ◌≤◌, List, [], length, Some, IfSome, ⊤}
use Rattle.text_names.specs.declared.limits.Limits.{Limits}
use Rattle.io_edge.specs.Outside.{FolderSeen, ReadsRose, IsLonger}
use Rattle.io_edge.specs.declared.outside.Role.{Role}
use Rattle.ofn_axiom.specs.declared.types.Mode.{Mode}
use Rattle.case_load.specs.Loads.{Inputs, IsLoaded}
use Rattle.case_load.specs.Faults.{IsFirstLoadFault}
use Rattle.case_load.specs.declared.texts.Loaded.{Loaded}
use Rattle.case_load.specs.declared.fault.LoadFault.{LoadFault}
use Rattle.case_load.specs.declared.fault.LoadFault.TheVariants as load
use Rattle.case_load.specs.declared.fault.LimitKind.TheVariants as limit

-- a file is no longer than this, and if the folder tells its files, these are its bytes
abbrev pub IsFile : FolderSeen → List ℕ → ℕ → List ℕ → Type 0
IsFile folder name most bytes =
    (length bytes ≤ most) × IfSome folder.files (λ files. files name ≡ Some bytes)

-- the files with these names have these texts
pub record AreFiles (folder : FolderSeen) (names : Inputs) (most : ℕ)
    (texts : Inputs) : Type 0 where
  pub left : IsFile folder names.left most texts.left
  pub right : IsFile folder names.right most texts.right
  pub map : IsFile folder names.map most texts.map

abbrev pub IsWhole : FolderSeen → List ℕ → ℕ → Type 0
IsWhole folder name most = (bytes : List ℕ) × IsFile folder name most bytes

-- the files before this one are there and not too long
abbrev pub IsReached : FolderSeen → Inputs → ℕ → Role → Type 0
IsReached folder names most Role.Left = ⊤
IsReached folder names most Role.Right = IsWhole folder names.left most
IsReached folder names most Role.Map =
    IsWhole folder names.left most × IsWhole folder names.right most
IsReached folder names most _ = ⊥

abbrev pub name_of : Inputs → Role → List ℕ
name_of names Role.Left = names.left
name_of names Role.Right = names.right
name_of names Role.Map = names.map
name_of names _ = []

-- of the files this is the first that could not be read: its count of faults rose
abbrev pub IsNotRead : FolderSeen → FolderSeen → Inputs → ℕ → Role → Type 0
IsNotRead old new names most file =
    IsReached old names most file × ReadsRose old new (name_of names file)
    × IfSome old.files (λ files. ¬ (IsLonger (files (name_of names file)) most))

-- of the files this is the first that is too long
abbrev pub IsTooLong : FolderSeen → Inputs → ℕ → Role → Type 0
IsTooLong old names most file =
    IsReached old names most file
    × IfSome old.files (λ files. IsLonger (files (name_of names file)) most)

-- the case of the files
pub record IsLoadedFrom (old : FolderSeen) (names : Inputs) (mode : Mode) (limits : Limits)
    (loaded : Loaded) : Type 0 where
  pub texts : Inputs
  pub files : AreFiles old names limits.file_bytes texts
  pub from_texts : IsLoaded texts mode limits loaded

-- all three are read, and of their texts this is the first fault
pub record IsTextsFault (old : FolderSeen) (names : Inputs) (mode : Mode) (limits : Limits)
    (fault : LoadFault) : Type 0 where
  pub texts : Inputs
  pub files : AreFiles old names limits.file_bytes texts
  pub of_texts : IsFirstLoadFault texts mode limits fault

-- the first fault: a file that is not read or too long, LEFT before RIGHT before MAP, or one of
-- their texts
abbrev pub IsFirstFileFault : FolderSeen → FolderSeen → Inputs → Mode → Limits → LoadFault → Type 0
IsFirstFileFault old new names mode limits (load.ReadFault file) =
    IsNotRead old new names limits.file_bytes file
IsFirstFileFault old new names mode limits (load.Limit (limit.Bytes file)) =
    IsTooLong old names limits.file_bytes file
IsFirstFileFault old new names mode limits fault = IsTextsFault old names mode limits fault
