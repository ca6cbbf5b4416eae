-- All that is known of a run, by its command.
use Rattle.std.specs.Prelude.{ℕ, Bool}
use Rattle.text_names.specs.declared.limits.Limits.{Limits}
use Rattle.command_words.specs.declared.types.FileNames.{FileNames}
use Rattle.command_words.specs.declared.types.RepairWords.{RepairWords}
use Rattle.command_words.specs.declared.types.RepairWords.TheVariants as repair
use Rattle.status_lines.specs.declared.status.Status.{Status}
use Rattle.status_lines.specs.Runs.{Run, mode_if}
use Rattle.repair_run.specs.declared.request.Request.{Request}
use Rattle.repair_run.specs.Run.{IsRun}
use Rattle.repair_run.specs.Made.{IsMadeRun}

-- these files, with the option or without it
abbrev pub request_of : Bool → FileNames → Request
request_of el_part names = record { names = names; mode = mode_if el_part }

-- it is one record; the number of workers is of no account
abbrev pub IsRunOf : Run → RepairWords → Limits → Status → Type 0
IsRunOf run (repair.Files el_part workers names) limits answer =
    IsRun run (request_of el_part names) limits answer
IsRunOf run (repair.Made size workers) limits answer = IsMadeRun run size limits answer
