-- What clauses see of a folder and a sink, what their calls answer, and what they leave.
use Rattle.std.specs.Prelude.{◌≡◌, ◌⊎◌, ℕ, ◌+◌, ◌-◌, ◌≤◌, ◌<◌, ◌^◌, min, List, ◌++◌, length, take, Option, Some, None, IfSome, bytes_eq, if◌then◌else◌, ⊤}
use Rattle.io_edge.specs.declared.outside.ReadAnswer.{ReadAnswer}
use Rattle.io_edge.specs.declared.outside.WriteAnswer.{WriteAnswer}
use Rattle.io_edge.specs.declared.outside.PutAnswer.{PutAnswer}
use Rattle.io_edge.specs.declared.outside.ReadAnswer.TheVariants as Read
use Rattle.io_edge.specs.declared.outside.WriteAnswer.TheVariants as Write
use Rattle.io_edge.specs.declared.outside.PutAnswer.TheVariants as Put

-- the bytes of each file, by its name
abbrev pub Files : Type 0
Files = List ℕ → Option (List ℕ)

-- the same files, but that this one holds these bytes
abbrev pub with_file : Files → List ℕ → List ℕ → Files
with_file files name bytes = λ other. if bytes_eq name other then Some bytes else files other

-- a count went up, or stands at 2^64 - 1, the end of its type
abbrev pub Rose : ℕ → ℕ → Type 0
Rose before now = min (before + 1) (2 ^ 64 - 1) ≤ now

-- what clauses see of a folder: the bytes of each file by its name, if it tells them, and how often
-- reads and writes of a name have failed
pub record FolderSeen : Type 0 where
  pub files : Option Files
  pub read_faults : List ℕ → ℕ
  pub write_faults : List ℕ → ℕ

-- what clauses see of a sink: the bytes that it has got, if it tells them, and how often a put has
-- failed
pub record SinkSeen : Type 0 where
  pub got : Option (List ℕ)
  pub faults : ℕ

-- no count of a folder went down
pub record FaultsNeverFall (old new : FolderSeen) : Type 0 where
  pub reads : (name : List ℕ) → old.read_faults name ≤ new.read_faults name
  pub writes : (name : List ℕ) → old.write_faults name ≤ new.write_faults name

-- a read, a write or a put failed in between: the count for this name, or of the sink, rose
abbrev pub ReadsRose : FolderSeen → FolderSeen → List ℕ → Type 0
ReadsRose old new name = Rose (old.read_faults name) (new.read_faults name)

abbrev pub WritesRose : FolderSeen → FolderSeen → List ℕ → Type 0
WritesRose old new name = Rose (old.write_faults name) (new.write_faults name)

abbrev pub PutsRose : SinkSeen → SinkSeen → Type 0
PutsRose old new = Rose old.faults new.faults

-- there is a file, and it has more than so many bytes
abbrev pub IsLonger : Option (List ℕ) → ℕ → Type 0
IsLonger None max = ⊥
IsLonger (Some bytes) max = max < length bytes

-- what a read answers
abbrev pub ReadAnswers : FolderSeen → FolderSeen → List ℕ → ℕ → ReadAnswer → Type 0
ReadAnswers old new name max (Read.Whole bytes) =
    (length bytes ≤ max) × IfSome old.files (λ files. files name ≡ Some bytes)
ReadAnswers old new name max Read.TooLong =
    (max < 2 ^ 64 - 1) × IfSome old.files (λ files. IsLonger (files name) max)
ReadAnswers old new name max Read.Failed =
    ReadsRose old new name × IfSome old.files (λ files. ¬ (IsLonger (files name) max))
ReadAnswers old new name max Read.OutOfMemory = ⊤

-- the named file holds the first bytes of these, and the others are the same
abbrev pub HoldsFront : Files → Option Files → List ℕ → List ℕ → Type 0
HoldsFront files new name bytes =
    (count : ℕ) × (new ≡ Some (with_file files name (take count bytes)))

-- what a write answers, and what it leaves
abbrev pub WriteAnswers : FolderSeen → FolderSeen → List ℕ → List ℕ → WriteAnswer → Type 0
WriteAnswers old new name bytes Write.Done =
    IfSome old.files (λ files. new.files ≡ Some (with_file files name bytes))
WriteAnswers old new name bytes Write.Failed =
    WritesRose old new name
    × IfSome old.files (λ files. (new.files ≡ Some files) ⊎ HoldsFront files new.files name bytes)
WriteAnswers old new name bytes Write.OutOfMemory = new.files ≡ old.files

-- the output has got the first bytes of these
abbrev pub HasGotFront : List ℕ → Option (List ℕ) → List ℕ → Type 0
HasGotFront got new bytes = (count : ℕ) × (new ≡ Some (got ++ take count bytes))

-- what a put answers, and what it leaves
abbrev pub PutAnswers : SinkSeen → SinkSeen → List ℕ → PutAnswer → Type 0
PutAnswers old new bytes Put.Done = IfSome old.got (λ got. new.got ≡ Some (got ++ bytes))
PutAnswers old new bytes Put.Failed =
    PutsRose old new × IfSome old.got (λ got. HasGotFront got new.got bytes)
PutAnswers old new bytes Put.OutOfMemory = new.got ≡ old.got
