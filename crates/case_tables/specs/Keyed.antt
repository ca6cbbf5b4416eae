-- Entries with their keys, and elements with their numbers.
use Rattle.std.specs.Prelude.{ℕ, ◌+◌, ◌==◌, if◌then◌else◌, List, [], ◌∷◌, slice_index_or}

-- the entries with this key, in their order
abbrev pub of_key : {T : Type 0} → List (ℕ × T) → ℕ → List T
of_key [] key = []
of_key (pair ∷ pairs) key = if pair.0 == key then pair.1 ∷ of_key pairs key else of_key pairs key

-- elements that are numbered from one number on, each by the name of its number
abbrev pub numbered_from : {A B : Type 0} → (ℕ → A) → ℕ → List B → List (A × B)
numbered_from name number [] = []
numbered_from name number (x ∷ xs) = (name number, x) ∷ numbered_from name (number + 1) xs

-- the list at a key, where each key has a list of its own
abbrev pub at_key : {T : Type 0} → List (List T) → ℕ → List T
at_key lists key = slice_index_or lists key []
