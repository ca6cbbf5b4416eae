-- What an id of a row stands for.
use Rattle.std.specs.Prelude.{ℕ, ◌==◌, Bool, false, ◌||◌, if◌then◌else◌, List, [], ◌∷◌, ◌++◌, length, codes, Option, Some, None, is_some}
use Rattle.byte_words.specs.Fronts.{without_front}
use Rattle.text_names.specs.Prefixes.{Prefixes, iri_of, has_colon, prefix_of, rest_of}

-- the text has :// somewhere
abbrev pub has_scheme : List ℕ → Bool
has_scheme [] = false
has_scheme (b ∷ bs) = is_some (without_front (codes "://") (b ∷ bs)) || has_scheme bs

-- the namespace of a known prefix and the rest
abbrev pub expanded_by : List ℕ → Option (List ℕ) → Option (List ℕ)
expanded_by id None = None
expanded_by id (Some namespace) = Some (namespace ++ rest_of id)

abbrev pub expanded : Prefixes → List ℕ → Option (List ℕ)
expanded prefixes id = if has_colon id then expanded_by id (iri_of prefixes (prefix_of id)) else None

-- an id whose prefix is not known is a whole IRI if it has ://, and is not read otherwise
abbrev pub whole_iri : List ℕ → Option (Option (List ℕ))
whole_iri id = if has_scheme id then Some (Some id) else None

abbrev pub expanded_or_whole : List ℕ → Option (List ℕ) → Option (Option (List ℕ))
expanded_or_whole id None = whole_iri id
expanded_or_whole id (Some iri) = Some (Some iri)

-- the IRI that an id stands for; an empty id stands for none, and another id may not be read
abbrev pub id_in : Prefixes → List ℕ → Option (Option (List ℕ))
id_in prefixes id = if length id == 0 then Some None else expanded_or_whole id (expanded prefixes id)
