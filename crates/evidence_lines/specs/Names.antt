-- Lines of nodes and roles: how each is spelled and read, and which have a line.
use Rattle.std.specs.Prelude.{◌≡◌, ℕ, ◌<◌, ◌^◌, IsUtf8, ◌-◌, ◌==◌, Bool, true, not, ◌&&◌, ◌||◌, if◌then◌else◌, List, [], ◌∷◌, ◌++◌, length, take, drop, codes, bytes_eq, decimal, Option, Some, None, ⊤}
use Rattle.std.specs.Str.{is_utf8}
use Rattle.std.specs.List.{list_all}
use Rattle.el_logic.specs.declared.types.Side.{Side}
use Rattle.el_logic.specs.declared.types.Side.TheVariants as side
use Rattle.byte_words.specs.Fronts.{without_front}
use Rattle.line_fields.specs.Lines.{Fields}
use Rattle.line_fields.specs.Reading.{◌>>=◌, with_rest, short_in, is_end}
use Rattle.evidence_lines.specs.declared.types.NodeLine.{NodeLine}
use Rattle.evidence_lines.specs.declared.types.NodeLine.TheVariants.{Top, Bottom, Class, And, Exists}
use Rattle.evidence_lines.specs.declared.types.RoleLine.{RoleLine}
use Rattle.evidence_lines.specs.declared.types.RoleLine.TheVariants.{Property, Part}

-- an IRI between < and >
abbrev pub iri_field : List ℕ → List ℕ
iri_field iri = 60 ∷ (iri ++ 62 ∷ [])

-- none of <, >, space and line feed
abbrev pub is_iri_byte : ℕ → Bool
is_iri_byte b = not (b == 60 || b == 62 || b == 32 || b == 10)

abbrev pub is_iri : List ℕ → Bool
is_iri bytes = list_all is_iri_byte bytes

abbrev pub side_word : Side → List ℕ
side_word side.Left = codes "left"
side_word side.Right = codes "right"

abbrev pub node_fields : NodeLine → Fields
node_fields Top = codes "top" ∷ []
node_fields Bottom = codes "bottom" ∷ []
node_fields (Class iri) = codes "class" ∷ iri_field iri ∷ []
node_fields (And i j) = codes "and" ∷ decimal i ∷ decimal j ∷ []
node_fields (Exists role i) = codes "some" ∷ decimal role ∷ decimal i ∷ []

abbrev pub role_fields : RoleLine → Fields
role_fields (Property iri) = codes "property" ∷ iri_field iri ∷ []
role_fields (Part side number length) =
    codes "part" ∷ side_word side ∷ decimal number ∷ decimal length ∷ []

-- the node, or the role, has a line
abbrev pub HasNodeLine : NodeLine → Type 0
HasNodeLine Top = ⊤
HasNodeLine Bottom = ⊤
HasNodeLine (Class iri) = is_iri iri ≡ true
HasNodeLine (And i j) = ⊤
HasNodeLine (Exists role i) = ⊤

abbrev pub HasRoleLine : RoleLine → Type 0
HasRoleLine (Property iri) = is_iri iri ≡ true
HasRoleLine (Part side number length) = ⊤

-- the text without this end, if it has it
abbrev pub without_back : List ℕ → List ℕ → Option (List ℕ)
without_back back text =
    if bytes_eq (drop (length text - length back) text) back
    then Some (take (length text - length back) text) else None

abbrev pub if_iri : List ℕ → Option (List ℕ)
if_iri bytes = if is_iri bytes && is_utf8 bytes then Some bytes else None

-- the IRI that a field is
abbrev pub iri_of : List ℕ → Option (List ℕ)
iri_of field = without_front (60 ∷ []) field >>= λ rest. without_back (62 ∷ []) rest >>= if_iri

abbrev pub iri_in : Fields → Option (List ℕ × Fields)
iri_in [] = None
iri_in (field ∷ rest) = with_rest rest (iri_of field)

abbrev pub if_end : {X : Type 0} → Fields → X → Option X
if_end fields x = if is_end fields then Some x else None

-- one IRI, or two numbers, and no more fields
abbrev pub one_iri : Fields → Option (List ℕ)
one_iri fields = do
  iri ← iri_in fields
  if_end iri.1 iri.0

abbrev pub two_numbers : Fields → Option (ℕ × ℕ)
two_numbers fields = do
  first ← short_in fields
  second ← short_in first.1
  if_end second.1 (first.0, second.0)

abbrev pub class_of : Fields → Option NodeLine
class_of fields = one_iri fields >>= λ iri. Some (Class iri)

abbrev pub and_of : Fields → Option NodeLine
and_of fields = two_numbers fields >>= λ numbers. Some (And numbers.0 numbers.1)

abbrev pub some_of : Fields → Option NodeLine
some_of fields = two_numbers fields >>= λ numbers. Some (Exists numbers.0 numbers.1)

abbrev pub plain_by : List ℕ → Fields → Option NodeLine
plain_by word rest =
    if bytes_eq word (codes "top") then if_end rest Top else
    if bytes_eq word (codes "bottom") then if_end rest Bottom else
    if bytes_eq word (codes "and") then and_of rest else
    if bytes_eq word (codes "some") then some_of rest else None

abbrev pub node_by : List ℕ → Fields → Option NodeLine
node_by word rest = if bytes_eq word (codes "class") then class_of rest else plain_by word rest

-- the node that a line with these fields is
unfoldable pub node_of : Fields → Option NodeLine
node_of [] = None
node_of (word ∷ rest) = node_by word rest

abbrev pub side_named : List ℕ → Option Side
side_named word =
    if bytes_eq word (codes "left") then Some side.Left else
    if bytes_eq word (codes "right") then Some side.Right else None

abbrev pub side_in : Fields → Option (Side × Fields)
side_in [] = None
side_in (word ∷ rest) = with_rest rest (side_named word)

abbrev pub property_of : Fields → Option RoleLine
property_of fields = one_iri fields >>= λ iri. Some (Property iri)

abbrev pub part_of : Fields → Option RoleLine
part_of fields = do
  side ← side_in fields
  numbers ← two_numbers side.1
  Some (Part side.0 numbers.0 numbers.1)

abbrev pub role_by : List ℕ → Fields → Option RoleLine
role_by word rest =
    if bytes_eq word (codes "property") then property_of rest else
    if bytes_eq word (codes "part") then part_of rest else None

-- the role that a line with these fields is
unfoldable pub role_of : Fields → Option RoleLine
role_of [] = None
role_of (word ∷ rest) = role_by word rest

-- what is so of every value: its numbers are below 2 ^ 32, and its name is UTF-8
abbrev pub IsNodeValue : NodeLine → Type 0
IsNodeValue Top = ⊤
IsNodeValue Bottom = ⊤
IsNodeValue (Class iri) = IsUtf8 iri
IsNodeValue (And i j) = (i < 2 ^ 32) × (j < 2 ^ 32)
IsNodeValue (Exists role i) = (role < 2 ^ 32) × (i < 2 ^ 32)

abbrev pub IsRoleValue : RoleLine → Type 0
IsRoleValue (Property iri) = IsUtf8 iri
IsRoleValue (Part side number length) = (number < 2 ^ 32) × (length < 2 ^ 32)
