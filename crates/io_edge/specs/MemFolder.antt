-- What a folder in memory holds, and what its calls answer.
use Rattle.std.specs.Prelude.{◌≡◌, ℕ, ◌<◌, ◌≤◌, List, length, Option, Some, None}
use Rattle.io_edge.specs.Files.{files_in}
use Rattle.io_edge.specs.Outside.{Files, FolderSeen, with_file}
use Rattle.io_edge.specs.declared.outside.ReadAnswer.{ReadAnswer}
use Rattle.io_edge.specs.declared.outside.WriteAnswer.{WriteAnswer}
use Rattle.io_edge.specs.declared.outside.ReadAnswer.TheVariants as Read
use Rattle.io_edge.specs.declared.outside.WriteAnswer.TheVariants as Write
use Rattle.io_edge.specs.declared.memory.MemFolder.{MemFolder}

-- the bytes of each file, by its name
abbrev pub files_of : MemFolder → Files
files_of folder = files_in folder.files

-- how many reads and writes were called, up to the end of the counter's type
abbrev pub calls_of : MemFolder → ℕ
calls_of folder = folder.schedule.calls

-- the numbers of the calls that fail, the first call being 1
abbrev pub failing_of : MemFolder → List ℕ
failing_of folder = folder.schedule.failing.items

-- how many calls have failed, up to the end of the counter's type
abbrev pub faults_of : MemFolder → ℕ
faults_of folder = folder.schedule.faults

-- it tells all its files, and counts the faults of all names together
abbrev pub seen_of : MemFolder → FolderSeen
seen_of folder = record {
  files = Some (files_of folder);
  read_faults = λ _. faults_of folder;
  write_faults = λ _. faults_of folder;
}

-- all but the files is as before
pub record ChangesOnlyFiles (old new : MemFolder) : Type 0 where
  pub calls : calls_of new ≡ calls_of old
  pub failing : failing_of new ≡ failing_of old
  pub faults : faults_of new ≡ faults_of old

-- all but the list of failing calls is as before
pub record ChangesOnlyFailing (old new : MemFolder) : Type 0 where
  pub files : files_of new ≡ files_of old
  pub calls : calls_of new ≡ calls_of old
  pub faults : faults_of new ≡ faults_of old

-- what a read answers, by the file of this name, if there is one, and by whether the call is one
-- that fails
abbrev pub AnswersRead : Option (List ℕ) → ℕ → Type 0 → ReadAnswer → Type 0
AnswersRead None max fails answer = answer ≡ Read.Failed
AnswersRead (Some bytes) max fails (Read.Whole read) =
    (read ≡ bytes) × (length bytes ≤ max) × (¬ fails)
AnswersRead (Some bytes) max fails Read.TooLong = max < length bytes
AnswersRead (Some bytes) max fails Read.Failed = (length bytes ≤ max) × fails
AnswersRead (Some bytes) max fails Read.OutOfMemory = (length bytes ≤ max) × (¬ fails)

-- what a write answers and leaves, by whether the call is one that fails
abbrev pub AnswersWrite : Files → Files → List ℕ → List ℕ → Type 0 → WriteAnswer → Type 0
AnswersWrite old new name bytes fails Write.Done = (new ≡ with_file old name bytes) × (¬ fails)
AnswersWrite old new name bytes fails Write.Failed = (new ≡ old) × fails
AnswersWrite old new name bytes fails Write.OutOfMemory = (new ≡ old) × (¬ fails)
