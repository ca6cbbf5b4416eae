-- A run of a program, as clauses see it, and how its files and its output stand after it.
use Rattle.std.specs.Prelude.{◌≡◌, ◌⊎◌, ℕ, Bool, true, false, List, ◌++◌, Some, IfSome}
use Rattle.io_edge.specs.Outside.{Files, FolderSeen, SinkSeen, PutsRose, HasGotFront}
use Rattle.ofn_axiom.specs.declared.types.Mode.{Mode}
use Rattle.ofn_axiom.specs.declared.types.Mode.TheVariants as mode

-- what a run with the option `--el-part`, or without it, does with axioms outside the fragment
abbrev pub mode_if : Bool → Mode
mode_if true = mode.ElPart
mode_if false = mode.Strict

-- the folder and the output before the run, and after it
pub record Run : Type 0 where
  pub folder : FolderSeen
  pub folder_after : FolderSeen
  pub output : SinkSeen
  pub output_after : SinkSeen

abbrev pub run_over : FolderSeen → FolderSeen → SinkSeen → SinkSeen → Run
run_over folder folder_after output output_after =
    record {
      folder = folder;
      folder_after = folder_after;
      output = output;
      output_after = output_after;
    }

-- what holds of the files before the run, if the folder tells them
abbrev pub IfTold : Run → (Files → Type 0) → Type 0
IfTold run Holds = IfSome run.folder.files Holds

-- no file has changed
abbrev pub IsUntouched : Run → Type 0
IsUntouched run = run.folder_after.files ≡ run.folder.files

-- the output has got this line
abbrev pub HasGot : Run → List ℕ → Type 0
HasGot run line = IfSome run.output.got (λ got. run.output_after.got ≡ Some (got ++ line))

-- the whole line was put, or the output failed after its first bytes
abbrev pub IsLinePut : SinkSeen → SinkSeen → List ℕ → Type 0
IsLinePut old new line = IfSome old.got (λ got.
    (new.got ≡ Some (got ++ line)) ⊎ (PutsRose old new × HasGotFront got new.got line))
