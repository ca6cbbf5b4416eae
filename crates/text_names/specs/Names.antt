-- Names in the order of their numbers.
use Rattle.std.specs.Prelude.{◌≡◌, ℕ, ◌<◌, Bool, false, if◌then◌else◌, List, [], ◌∷◌, ◌++◌, length, Option, Some, is_some, position, bytes_eq, slice_get}
use Rattle.std.specs.List.{position_or_len}
use Rattle.text_names.specs.declared.names.NameFault.{NameFault}
use Rattle.text_names.specs.declared.names.NameFault.TheVariants as fault

-- the names of a table, which stand at their numbers, and how many it may hold
pub record Numbering : Type 0 where
  pub names : List (List ℕ)
  pub most : ℕ

-- the number of a name that is held
abbrev pub number_of : List (List ℕ) → List ℕ → Option ℕ
number_of names name = position (bytes_eq name) names

abbrev pub is_held : List (List ℕ) → List ℕ → Bool
is_held names name = is_some (number_of names name)

-- the number of a name that is held, or the next number
abbrev pub number_or_next : List (List ℕ) → List ℕ → ℕ
number_or_next names name = position_or_len (bytes_eq name) names

-- no name is held twice: each stands at its own number
abbrev pub AreDistinct : List (List ℕ) → Type 0
AreDistinct names = (k : ℕ) (name : List ℕ) → slice_get names k ≡ Some name → number_of names name ≡ Some k

-- these names and one more, unless it is held
abbrev pub with_name : List (List ℕ) → List ℕ → List (List ℕ)
with_name names name = if is_held names name then names else names ++ name ∷ []

-- the name is new, and no more names may be held
abbrev pub IsFullFor : Numbering → List ℕ → Type 0
IsFullFor table name = (is_held table.names name ≡ false) × (length table.names ≡ table.most)

-- why a name has no number: memory is short only where it is new and there is room for it
abbrev pub IsNameFault : Numbering → List ℕ → NameFault → Type 0
IsNameFault table name fault.Full = IsFullFor table name
IsNameFault table name fault.OutOfMemory = (is_held table.names name ≡ false) × (length table.names < table.most)
