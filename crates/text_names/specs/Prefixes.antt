-- Prefixes, and short names that begin with one.
use Rattle.std.specs.Prelude.{◌≡◌, ◌≢◌, ℕ, ◌==◌, Bool, true, false, if◌then◌else◌, List, [], ◌∷◌, ◌++◌, Option, is_some, IsSomeAnd, bytes_eq}
use Rattle.std.specs.List.{list_any, before_first, after_first}
use Rattle.std.specs.Map.{lookup}
use Rattle.text_names.specs.declared.prefixes.PrefixFault.{PrefixFault}
use Rattle.text_names.specs.declared.prefixes.PrefixFault.TheVariants as fault

-- prefixes in the order of their declaration, each with its IRI
abbrev pub Prefixes : Type 0
Prefixes = List (List ℕ × List ℕ)

-- the IRI of a prefix
abbrev pub iri_of : Prefixes → List ℕ → Option (List ℕ)
iri_of prefixes prefix = lookup (bytes_eq prefix) prefixes

abbrev pub is_declared : Prefixes → List ℕ → Bool
is_declared prefixes prefix = is_some (iri_of prefixes prefix)

-- these prefixes and one more, unless it is declared
abbrev pub with_prefix : Prefixes → List ℕ → List ℕ → Prefixes
with_prefix prefixes prefix iri = if is_declared prefixes prefix then prefixes else prefixes ++ (prefix, iri) ∷ []

-- the prefix is declared with another IRI than this one
abbrev pub HasOtherIri : Prefixes → List ℕ → List ℕ → Type 0
HasOtherIri prefixes prefix iri = IsSomeAnd (iri_of prefixes prefix) (λ held. held ≢ iri)

-- why a prefix is not declared: memory is short only where it is new
abbrev pub IsDeclareFault : Prefixes → List ℕ → List ℕ → PrefixFault → Type 0
IsDeclareFault prefixes prefix iri fault.Again = HasOtherIri prefixes prefix iri
IsDeclareFault prefixes prefix iri fault.NoColon = ⊥
IsDeclareFault prefixes prefix iri fault.Unknown = ⊥
IsDeclareFault prefixes prefix iri fault.OutOfMemory = is_declared prefixes prefix ≡ false

abbrev pub is_colon : ℕ → Bool
is_colon b = b == 58

abbrev pub has_colon : List ℕ → Bool
has_colon short = list_any is_colon short

-- a short name is its prefix, the first colon and the rest
abbrev pub prefix_of : List ℕ → List ℕ
prefix_of short = before_first is_colon short

abbrev pub rest_of : List ℕ → List ℕ
rest_of short = after_first is_colon short

-- the IRI that a short name stands for
abbrev pub IsExpansion : Prefixes → List ℕ → List ℕ → Type 0
IsExpansion prefixes short iri = (has_colon short ≡ true) × IsSomeAnd (iri_of prefixes (prefix_of short)) (λ held. iri ≡ held ++ rest_of short)

-- why a short name stands for none: memory is short only where it does
abbrev pub IsExpandFault : Prefixes → List ℕ → PrefixFault → Type 0
IsExpandFault prefixes short fault.Again = ⊥
IsExpandFault prefixes short fault.NoColon = has_colon short ≡ false
IsExpandFault prefixes short fault.Unknown = (has_colon short ≡ true) × (is_declared prefixes (prefix_of short) ≡ false)
IsExpandFault prefixes short fault.OutOfMemory = (has_colon short ≡ true) × (is_declared prefixes (prefix_of short) ≡ true)
