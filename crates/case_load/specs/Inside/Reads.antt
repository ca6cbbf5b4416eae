-- What reading files leaves to the next stage.
use Rattle.std.specs.Prelude.{◌≡◌, ℕ, List, IfSome, ⊤}
use Rattle.io_edge.specs.Outside.{FolderSeen, ReadsRose, IsLonger}
use Rattle.io_edge.specs.declared.outside.Role.{Role}
use Rattle.case_load.specs.Loads.{Inputs}
use Rattle.case_load.specs.Folders.{IsNotRead, IsTooLong}
use Rattle.case_load.specs.declared.files.Texts.{Texts}
use Rattle.case_load.specs.declared.fault.LoadFault.{LoadFault}
use Rattle.case_load.specs.declared.fault.LoadFault.TheVariants as load
use Rattle.case_load.specs.declared.fault.LimitKind.TheVariants as limit

abbrev pub inputs_of : Texts → Inputs
inputs_of texts = record { left = texts.left; right = texts.right; map = texts.map }

-- why a file was not read
abbrev pub IsReadStop : FolderSeen → FolderSeen → List ℕ → ℕ → Role → LoadFault → Type 0
IsReadStop old new name most role (load.ReadFault file) =
    (file ≡ role) × ReadsRose old new name
    × IfSome old.files (λ files. ¬ (IsLonger (files name) most))
IsReadStop old new name most role (load.Limit (limit.Bytes file)) =
    (file ≡ role) × IfSome old.files (λ files. IsLonger (files name) most)
IsReadStop old new name most role load.OutOfMemory = ⊤
IsReadStop old new name most role _ = ⊥

-- why the files were not all read
abbrev pub IsFilesStop : FolderSeen → FolderSeen → Inputs → ℕ → LoadFault → Type 0
IsFilesStop old new names most (load.ReadFault file) = IsNotRead old new names most file
IsFilesStop old new names most (load.Limit (limit.Bytes file)) = IsTooLong old names most file
IsFilesStop old new names most load.OutOfMemory = ⊤
IsFilesStop old new names most _ = ⊥
