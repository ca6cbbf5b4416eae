-- The prefixes that hold in each table, unless its header says otherwise.
use Rattle.std.specs.Prelude.{[], ◌∷◌, codes}
use Rattle.text_names.specs.Prefixes.{Prefixes, with_prefix}

abbrev pub built_in : Prefixes
built_in =
    (codes "owl", codes "http://www.w3.org/2002/07/owl#") ∷ (codes "rdf", codes "http://www.w3.org/1999/02/22-rdf-syntax-ns#") ∷
    (codes "rdfs", codes "http://www.w3.org/2000/01/rdf-schema#") ∷ (codes "skos", codes "http://www.w3.org/2004/02/skos/core#") ∷
    (codes "semapv", codes "https://w3id.org/semapv/vocab/") ∷ (codes "sssom", codes "https://w3id.org/sssom/") ∷ []

-- these prefixes, and of others those that are not declared
abbrev pub with_all : Prefixes → Prefixes → Prefixes
with_all prefixes [] = prefixes
with_all prefixes (entry ∷ entries) = with_all (with_prefix prefixes entry.0 entry.1) entries

abbrev pub with_built_in : Prefixes → Prefixes
with_built_in prefixes = with_all prefixes built_in
