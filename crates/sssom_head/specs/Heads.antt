-- The answer of a header, as the code gives it.
use Rattle.std.specs.Prelude.{◌≡◌, ℕ, Bool, true, false, List, Result, Ok, Err}
use Rattle.byte_words.specs.Faults.{OrOutOfMemory}
use Rattle.text_names.specs.Prefixes.{Prefixes}
use Rattle.sssom_head.specs.declared.head.Head.{Head}
use Rattle.sssom_head.specs.declared.head.HeadFault.{HeadFault}
use Rattle.sssom_head.specs.declared.head.HeadFault.TheVariants.{OutOfMemory}
use Rattle.sssom_head.specs.declared.place.MapPlace.{MapPlace}
use Rattle.sssom_head.specs.Lines.{header_lines, bytes_in, contents_of}
use Rattle.sssom_head.specs.HeaderSteps.{Answer, at_place, run, start}
use Rattle.sssom_head.specs.BuiltIn.{with_built_in}
use Rattle.sssom_head.specs.Headers.{IsFirstFault, IsSound}

-- memory ran out
abbrev pub head_ran_out : HeadFault → Bool
head_ran_out OutOfMemory = true
head_ran_out _ = false

-- the fault is the expected one, unless memory ran out
abbrev pub IsFaultOf : Answer → HeadFault → Type 0
IsFaultOf expected fault = OrOutOfMemory head_ran_out (λ found. expected ≡ Err found) fault

-- what the header lines of a text give
abbrev pub read : List ℕ → Answer
read bytes = run 1 start (contents_of bytes)

-- the header lines have this number of bytes, and their map has these entries
pub record IsMap (bytes : List ℕ) (length : ℕ) (entries : Prefixes) : Type 0 where
  pub place : MapPlace
  pub map : read bytes ≡ at_place place entries
  pub counted : length ≡ bytes_in (header_lines bytes)

pub record IsHead (bytes : List ℕ) (head : Head) : Type 0 where
  pub entries : Prefixes
  pub map : IsMap bytes head.length entries
  pub prefixes : head.prefixes ≡ with_built_in entries

abbrev pub IsHeadRead : List ℕ → Result Head HeadFault → Type 0
IsHeadRead bytes (Ok head) = IsHead bytes head
IsHeadRead bytes (Err fault) = IsFaultOf (read bytes) fault

-- no header line is wrong, and these lines have this number of bytes; the prefixes are the entries of the map, and of
-- the built-in ones those that the map does not have
pub record IsHeadOf (bytes : List ℕ) (head : Head) : Type 0 where
  pub place : MapPlace
  pub entries : Prefixes
  pub sound : IsSound (contents_of bytes) place entries
  pub counted : head.length ≡ bytes_in (header_lines bytes)
  pub prefixes : head.prefixes ≡ with_built_in entries

-- what the lines of a header say, unless memory ran out
abbrev pub IsHeader : List ℕ → Result Head HeadFault → Type 0
IsHeader bytes (Ok head) = IsHeadOf bytes head
IsHeader bytes (Err fault) = OrOutOfMemory head_ran_out (IsFirstFault (contents_of bytes)) fault
