-- A header as its lines say it: where its map stands, which lines are entries, and which line is wrong. Each list
-- holds the contents of lines.
use Rattle.std.specs.Prelude.{◌≡◌, ◌≢◌, ◌≤◌, ◌<◌, ◌⊎◌, ℕ, ◌+◌, true, false, if◌then◌else◌, List, [], ◌∷◌, ◌++◌, length, Option, Some, None, Ok, Err, IsSomeAnd, ⊤}
use Rattle.std.specs.List.{AllByRecursion}
use Rattle.text_names.specs.Prefixes.{Prefixes, iri_of, HasOtherIri}
use Rattle.sssom_head.specs.declared.head.HeadFault.{HeadFault}
use Rattle.sssom_head.specs.declared.head.HeadFault.TheVariants.{MapForm, Again, OutOfMemory}
use Rattle.sssom_head.specs.declared.place.MapPlace.{MapPlace}
use Rattle.sssom_head.specs.declared.place.MapPlace.TheVariants.{Before, Inside, Past}
use Rattle.sssom_head.specs.Contents.{indentation, is_empty_list, is_blank, map_text, begins_map, is_empty_map}
use Rattle.sssom_head.specs.Entries.{IsEntry}
use Rattle.sssom_head.specs.BuiltIn.{with_all}
use Rattle.sssom_head.specs.HeaderSteps.{Answer}

abbrev pub BeginNoMap : List (List ℕ) → Type 0
BeginNoMap lines = AllByRecursion (λ content. map_text content ≡ None) lines

-- blank, or deeper than the first line of the map
abbrev pub StaysInside : ℕ → List ℕ → Type 0
StaysInside map content = (is_blank content ≡ true) ⊎ (map < indentation content)

-- the lines that are not blank
abbrev pub entry_lines : List (List ℕ) → List (List ℕ)
entry_lines [] = []
entry_lines (content ∷ contents) = if is_blank content then entry_lines contents else content ∷ entry_lines contents

abbrev pub first_indentation : List (List ℕ) → Option ℕ
first_indentation [] = None
first_indentation (content ∷ contents) = Some (indentation content)

-- all have the indentation of the first
abbrev pub AreAlike : List (List ℕ) → Type 0
AreAlike lines = AllByRecursion (λ content. Some (indentation content) ≡ first_indentation lines) lines

-- each line is an entry with a key and a value, in this order
abbrev pub AreEntries : List (List ℕ) → Prefixes → Type 0
AreEntries [] [] = ⊤
AreEntries [] (pair ∷ pairs) = ⊥
AreEntries (content ∷ contents) [] = ⊥
AreEntries (content ∷ contents) (pair ∷ pairs) = IsEntry content pair.0 pair.1 × AreEntries contents pairs

-- each key stands with the value that it has first
abbrev pub AreConsistent : Prefixes → Type 0
AreConsistent pairs = AllByRecursion (λ pair. iri_of pairs pair.0 ≡ Some pair.1) pairs

-- keys with their values, each key once
abbrev pub map_of : Prefixes → Prefixes
map_of pairs = with_all [] pairs

-- lines without a map, the first line of one, with nothing after its colon, and since then blank lines and entries
pub record IsInside (lines : List (List ℕ)) (map : ℕ) (entries : Option ℕ) (pairs : Prefixes) : Type 0 where
  pub before : List (List ℕ)
  pub own : List ℕ
  pub since : List (List ℕ)
  pub whole : lines ≡ before ++ own ∷ since
  pub no_map : BeginNoMap before
  pub opens : map_text own ≡ Some []
  pub map_is : map ≡ indentation own
  pub no_other : BeginNoMap since
  pub inside : AllByRecursion (StaysInside map) since
  pub entries_are : entries ≡ first_indentation (entry_lines since)
  pub alike : AreAlike (entry_lines since)
  pub spelled : AreEntries (entry_lines since) pairs
  pub consistent : AreConsistent pairs

-- a map that is written {}, and lines without a map before it and after it
pub record HasEmptyMap (lines : List (List ℕ)) (pairs : Prefixes) : Type 0 where
  pub before : List (List ℕ)
  pub own : List ℕ
  pub text : List ℕ
  pub after : List (List ℕ)
  pub whole : lines ≡ before ++ own ∷ after
  pub no_map : BeginNoMap before
  pub opens : map_text own ≡ Some text
  pub braces : is_empty_map text ≡ true
  pub no_other : BeginNoMap after
  pub none : pairs ≡ []

-- a map and its entries, then a line that is not blank and no deeper, and any other lines without a map
pub record HasEndedMap (lines : List (List ℕ)) (pairs : Prefixes) : Type 0 where
  pub map_lines : List (List ℕ)
  pub map : ℕ
  pub entries : Option ℕ
  pub last : List ℕ
  pub after : List (List ℕ)
  pub whole : lines ≡ map_lines ++ last ∷ after
  pub open_map : IsInside map_lines map entries pairs
  pub visible : is_blank last ≡ false
  pub shallow : indentation last ≤ map
  pub no_other : BeginNoMap (last ∷ after)

-- no line is wrong, the map has these keys and values, and this is where the lines lead
abbrev pub IsPlace : List (List ℕ) → MapPlace → Prefixes → Type 0
IsPlace lines Before pairs = BeginNoMap lines × (pairs ≡ [])
IsPlace lines (Inside map entries) pairs = IsInside lines map entries pairs
IsPlace lines Past pairs = HasEmptyMap lines pairs ⊎ HasEndedMap lines pairs

-- a line where an entry has to stand
pub record IsEntryLine (map : ℕ) (content : List ℕ) : Type 0 where
  pub no_map : map_text content ≡ None
  pub visible : is_blank content ≡ false
  pub deeper : map < indentation content

-- the entries before, if any, have another indentation
abbrev pub IsUnlike : Option ℕ → List ℕ → Type 0
IsUnlike None content = ⊥
IsUnlike (Some n) content = n ≢ indentation content

-- no line of a map: a first line with other text after its colon, a second first line, an entry of another
-- indentation or of another form
abbrev pub IsMapFault : MapPlace → List ℕ → Type 0
IsMapFault Before content = IsSomeAnd (map_text content) (λ text. (is_empty_list text ≡ false) × (is_empty_map text ≡ false))
IsMapFault Past content = begins_map content ≡ true
IsMapFault (Inside map entries) content =
    (begins_map content ≡ true)
    ⊎ (IsEntryLine map content × (IsUnlike entries content ⊎ ((key value : List ℕ) → IsEntry content key value → ⊥)))

-- an entry whose key stands already with another value
pub record IsAgain (map : ℕ) (entries : Option ℕ) (pairs : Prefixes) (content : List ℕ) : Type 0 where
  pub key : List ℕ
  pub value : List ℕ
  pub line : IsEntryLine map content
  pub like : ¬ (IsUnlike entries content)
  pub form : IsEntry content key value
  pub other : HasOtherIri pairs key value

abbrev pub IsAgainAt : MapPlace → Prefixes → List ℕ → Type 0
IsAgainAt Before pairs content = ⊥
IsAgainAt Past pairs content = ⊥
IsAgainAt (Inside map entries) pairs content = IsAgain map entries pairs content

abbrev pub IsFault : ℕ → MapPlace → Prefixes → List ℕ → HeadFault → Type 0
IsFault line place pairs content (MapForm n) = (n ≡ line) × IsMapFault place content
IsFault line place pairs content (Again n) = (n ≡ line) × IsAgainAt place pairs content
IsFault line place pairs content OutOfMemory = ⊥

-- the lines before this one are without fault, and this one is wrong. Lines are counted from 1
pub record IsFirstFault (lines : List (List ℕ)) (fault : HeadFault) : Type 0 where
  pub before : List (List ℕ)
  pub content : List ℕ
  pub after : List (List ℕ)
  pub whole : lines ≡ before ++ content ∷ after
  pub place : MapPlace
  pub pairs : Prefixes
  pub sound : IsPlace before place pairs
  pub at_fault : IsFault (1 + length before) place pairs content fault

-- no line is wrong, and the map has these entries
pub record IsSound (lines : List (List ℕ)) (place : MapPlace) (entries : Prefixes) : Type 0 where
  pub pairs : Prefixes
  pub sound : IsPlace lines place pairs
  pub entries_are : entries ≡ map_of pairs

abbrev pub IsReading : List (List ℕ) → Answer → Type 0
IsReading lines (Ok state) = IsSound lines state.place state.prefixes
IsReading lines (Err fault) = IsFirstFault lines fault
