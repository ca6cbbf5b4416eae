-- What reading files leaves to the next stage.
use Rattle.std.specs.Prelude.{◌≡◌, ℕ, ◌<◌, ◌-◌, ◌^◌, List, length, IfSome, ⊤}
use Rattle.io_edge.specs.Outside.{FolderSeen, ReadsRose, IsLonger}
use Rattle.io_edge.specs.declared.outside.Role.{Role}
use Rattle.case_load.specs.declared.fault.LoadFault.{LoadFault}
use Rattle.case_load.specs.declared.fault.LoadFault.TheVariants as load
use Rattle.case_load.specs.declared.fault.LimitKind.TheVariants as limit
use Rattle.command_words.specs.declared.types.CheckWords.{CheckWords}
use Rattle.check_run.specs.declared.reading.CheckTexts.{CheckTexts}
use Rattle.check_run.specs.Files.{IsUnread, IsTooLongFor}

-- why a file was not read
abbrev pub IsFileStop : FolderSeen → FolderSeen → List ℕ → ℕ → Role → LoadFault → Type 0
IsFileStop old new name most role (load.ReadFault file) =
    (file ≡ role) × ReadsRose old new name
    × IfSome old.files (λ files. ¬ (IsLonger (files name) most))
IsFileStop old new name most role (load.Limit (limit.Bytes file)) =
    (file ≡ role) × (most < 2 ^ 64 - 1) × IfSome old.files (λ files. IsLonger (files name) most)
IsFileStop old new name most role load.OutOfMemory = ⊤
IsFileStop old new name most role _ = ⊥

-- why the files were not all read
abbrev pub IsTextsStop : FolderSeen → FolderSeen → CheckWords → ℕ → LoadFault → Type 0
IsTextsStop old new command most (load.ReadFault file) = IsUnread old new command most file
IsTextsStop old new command most (load.Limit (limit.Bytes file)) =
    IsTooLongFor old command most file
IsTextsStop old new command most load.OutOfMemory = ⊤
IsTextsStop old new command most _ = ⊥

-- LEFT, RIGHT and MAP are short enough for the case
pub record AreShort (texts : CheckTexts) : Type 0 where
  pub left : length texts.left < 2 ^ 31
  pub right : length texts.right < 2 ^ 31
  pub map : length texts.map < 2 ^ 31
