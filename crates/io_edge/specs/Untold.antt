-- What clauses see of the system's files and output, which tell nothing of their content.
use Rattle.std.specs.Prelude.{ℕ, None}
use Rattle.io_edge.specs.Outside.{FolderSeen, SinkSeen}

-- one count stands for the reads and writes of all names
abbrev pub folder_with_faults : ℕ → FolderSeen
folder_with_faults faults =
    record { files = None; read_faults = λ _. faults; write_faults = λ _. faults }

abbrev pub sink_with_faults : ℕ → SinkSeen
sink_with_faults faults = record { got = None; faults = faults }
