-- The answers of the steps in which a header is read.
use Rattle.std.specs.Prelude.{◌≡◌, ℕ, List, Result, Ok, Err}
use Rattle.text_names.specs.Prefixes.{Prefixes}
use Rattle.sssom_head.specs.declared.head.HeadFault.{HeadFault}
use Rattle.sssom_head.specs.declared.place.MapPlace.{MapPlace}
use Rattle.sssom_head.specs.HeaderSteps.{Answer, at_place}
use Rattle.sssom_head.specs.Heads.{IsFaultOf, IsMap, read}

-- a line leads to this place with these prefixes, or to this fault
abbrev pub IsStep : Answer → Result MapPlace HeadFault → Prefixes → Type 0
IsStep expected (Ok place) prefixes = expected ≡ at_place place prefixes
IsStep expected (Err fault) prefixes = IsFaultOf expected fault

-- the header lines lead to this map, or to this fault
abbrev pub AreRead : List ℕ → Result ℕ HeadFault → Prefixes → Type 0
AreRead bytes (Ok len) entries = IsMap bytes len entries
AreRead bytes (Err fault) entries = IsFaultOf (read bytes) fault
