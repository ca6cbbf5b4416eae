-- Why files are not read, as their first fault.
use Rattle.byte_words.specs.Faults.{OrOutOfMemory}
use Rattle.text_names.specs.declared.limits.Limits.{Limits}
use Rattle.io_edge.specs.Outside.{FolderSeen}
use Rattle.case_load.specs.Faults.{IsFirstLoadFault, load_ran_out}
use Rattle.case_load.specs.declared.fault.LoadFault.{LoadFault}
use Rattle.case_load.specs.declared.fault.LoadFault.TheVariants as load
use Rattle.case_load.specs.declared.fault.LimitKind.TheVariants as limit
use Rattle.command_words.specs.declared.types.CheckWords.{CheckWords}
use Rattle.check_run.specs.declared.reading.CheckTexts.{CheckTexts}
use Rattle.check_run.specs.Files.{inputs_of, mode_of, AreTextsFor, IsFirstFaultFor}
use Rattle.check_run.specs.Inside.Reads.{IsTextsStop}

module _ (old new : FolderSeen) (command : CheckWords) (limits : Limits) where
  abbrev IsFault : LoadFault → Type 0
  IsFault fault = OrOutOfMemory load_ran_out (IsFirstFaultFor old new command limits) fault

  -- a file that is not read or too long
  pub stop_is_fault : (fault : LoadFault) → IsTextsStop old new command limits.file_bytes fault → IsFault fault
  stop_is_fault (load.ReadFault file) h = h
  stop_is_fault (load.Limit (limit.Bytes file)) h = h
  stop_is_fault (load.Limit (limit.Depth side)) h = absurd h
  stop_is_fault (load.Limit (limit.Classes side)) h = absurd h
  stop_is_fault (load.Limit (limit.Properties side)) h = absurd h
  stop_is_fault (load.Limit limit.Rows) h = absurd h
  stop_is_fault (load.Limit limit.Nodes) h = absurd h
  stop_is_fault (load.Limit limit.Roles) h = absurd h
  stop_is_fault load.OutOfMemory h = tt
  stop_is_fault (load.Syntax side place kind) h = absurd h
  stop_is_fault (load.Profile side place head) h = absurd h
  stop_is_fault (load.Table fault) h = absurd h

  -- a fault of the texts
  pub text_is_fault : (texts : CheckTexts) → AreTextsFor old command limits.file_bytes texts → (fault : LoadFault)
      → OrOutOfMemory load_ran_out (IsFirstLoadFault (inputs_of texts) (mode_of command) limits) fault → IsFault fault
  text_is_fault texts read (load.ReadFault file) h = absurd h
  text_is_fault texts read (load.Limit (limit.Bytes file)) h = absurd h
  text_is_fault texts read (load.Limit (limit.Depth side)) h = record { texts = texts; files = read; of_texts = h }
  text_is_fault texts read (load.Limit (limit.Classes side)) h = record { texts = texts; files = read; of_texts = h }
  text_is_fault texts read (load.Limit (limit.Properties side)) h = record { texts = texts; files = read; of_texts = h }
  text_is_fault texts read (load.Limit limit.Rows) h = record { texts = texts; files = read; of_texts = h }
  text_is_fault texts read (load.Limit limit.Nodes) h = record { texts = texts; files = read; of_texts = h }
  text_is_fault texts read (load.Limit limit.Roles) h = record { texts = texts; files = read; of_texts = h }
  text_is_fault texts read load.OutOfMemory h = tt
  text_is_fault texts read (load.Syntax side place kind) h = record { texts = texts; files = read; of_texts = h }
  text_is_fault texts read (load.Profile side place head) h = record { texts = texts; files = read; of_texts = h }
  text_is_fault texts read (load.Table fault) h = record { texts = texts; files = read; of_texts = h }
