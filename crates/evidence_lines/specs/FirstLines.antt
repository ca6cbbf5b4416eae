-- Lines that begin a section, or end the text: how each is spelled and read.
use Rattle.std.specs.Prelude.{ℕ, Bool, true, false, not, ◌&&◌, if◌then◌else◌, List, [], ◌∷◌, codes, bytes_eq, decimal, Option, Some, None}
use Rattle.std.specs.List.{list_all}
use Rattle.byte_words.specs.Bytes.{is_digit}
use Rattle.el_logic.specs.declared.types.Part.{Part}
use Rattle.el_logic.specs.declared.types.Part.TheVariants as part
use Rattle.line_fields.specs.Lines.{Fields, parts_fields}
use Rattle.line_fields.specs.Reading.{◌>>=◌, long_in, short_in}
use Rattle.evidence_lines.specs.declared.types.Kind.{Kind}
use Rattle.evidence_lines.specs.declared.types.Kind.TheVariants as kind
use Rattle.evidence_lines.specs.Model.{after_word, number_follows}
use Rattle.evidence_lines.specs.Names.{if_end}

abbrev pub version_fields : Fields
version_fields = codes "alod" ∷ codes "evidence" ∷ codes "1" ∷ []

abbrev pub part_word : Part → List ℕ
part_word part.Left = codes "left"
part_word part.Right = codes "right"
part_word part.Both = codes "both"

abbrev pub kind_fields : Kind → Fields
kind_fields kind.Diagnosis = codes "diagnosis" ∷ []
kind_fields (kind.Refusal p) = codes "refusal" ∷ part_word p ∷ []

-- a word and a number
abbrev pub numbered : List ℕ → ℕ → Fields
numbered word n = word ∷ decimal n ∷ []

-- a removed row, and how many steps follow
abbrev pub row_fields : ℕ → ℕ → Fields
row_fields row steps = codes "row" ∷ decimal row ∷ codes "steps" ∷ decimal steps ∷ []

abbrev pub end_fields : Fields
end_fields = codes "end" ∷ []

-- a word that may be a field
abbrev pub is_plain : List ℕ → Bool
is_plain word = list_all (λ b. not (parts_fields b)) word

-- the word alone
abbrev pub word_of : {X : Type 0} → List ℕ → X → Fields → Option X
word_of word x fields = after_word word fields >>= λ rest. if_end rest x

-- the version is this one
abbrev pub version_of : Fields → Option (Unit {0})
version_of fields =
    after_word (codes "alod") fields >>= λ rest.
    after_word (codes "evidence") rest >>= word_of (codes "1") tt

-- one or more digits other than 1 alone
abbrev pub is_other_number : List ℕ → Bool
is_other_number [] = false
is_other_number (b ∷ bs) = list_all is_digit (b ∷ bs) && not (bytes_eq (b ∷ bs) (codes "1"))

abbrev pub names_other : List ℕ → List ℕ → List ℕ → Bool
names_other alod evidence number =
    bytes_eq alod (codes "alod") && (bytes_eq evidence (codes "evidence") && is_other_number number)

-- the line says another version
abbrev pub is_other_version : Fields → Bool
is_other_version (alod ∷ evidence ∷ number ∷ []) = names_other alod evidence number
is_other_version _ = false

abbrev pub part_named : List ℕ → Option Part
part_named word =
    if bytes_eq word (codes "left") then Some part.Left else
    if bytes_eq word (codes "right") then Some part.Right else
    if bytes_eq word (codes "both") then Some part.Both else None

abbrev pub refusal_of : Fields → Option Kind
refusal_of [] = None
refusal_of (word ∷ rest) = part_named word >>= λ p. if_end rest (kind.Refusal p)

abbrev pub kind_of : Fields → Option Kind
kind_of [] = None
kind_of (word ∷ rest) =
    if bytes_eq word (codes "diagnosis") then if_end rest kind.Diagnosis else
    if bytes_eq word (codes "refusal") then refusal_of rest else None

-- a word and how many entries follow
abbrev pub count_of : List ℕ → Fields → Option ℕ
count_of word fields =
    after_word word fields >>= λ rest. long_in rest >>= λ count. if_end count.1 count.0

abbrev pub size_of : Fields → Option ℕ
size_of fields =
    after_word (codes "model") fields >>= λ rest. short_in rest >>= λ size. if_end size.1 size.0

abbrev pub if_row_follows : Option ℕ → ℕ → ℕ → Option (ℕ × ℕ)
if_row_follows before row steps = if number_follows before row then Some (row, steps) else None

-- the number of a row that may follow this one, and how many steps follow
abbrev pub row_of : Option ℕ → Fields → Option (ℕ × ℕ)
row_of before fields =
    after_word (codes "row") fields >>= λ numbers. short_in numbers >>= λ row.
    after_word (codes "steps") row.1 >>= λ rest. long_in rest >>= λ steps.
    if_end steps.1 steps.0 >>= λ count. if_row_follows before row.0 count

abbrev pub end_of : Fields → Option (Unit {0})
end_of fields = word_of (codes "end") tt fields
