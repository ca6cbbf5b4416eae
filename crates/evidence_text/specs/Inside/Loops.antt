-- Entries that are read one after another, as a loop does.
use Rattle.std.specs.Prelude.{◌-◌, List, ◌++◌, length, slice_get, Option, Ok}
use Rattle.line_fields.specs.Reading.{At}
use Rattle.evidence_text.specs.Reading.{Read, ◌>>=◌}

-- what was read before, and what is still read
abbrev pub with_front : {X : Type 0} → List X → Read (List X) → Read (List X)
with_front front read = read >>= λ more. Ok (front ++ more.0, more.1)

-- the last entry
abbrev pub last_of : {X : Type 0} → List X → Option X
last_of xs = slice_get xs (length xs - 1)

-- the same for lists that end at the first line that is none of theirs
abbrev pub with_run : {X : Type 0} → List X → (List X × At) → (List X × At)
with_run front rest = (front ++ rest.0, rest.1)
