-- What a predicate says of its subject and its object.
use Rattle.std.specs.Prelude.{ℕ, List, if◌then◌else◌, codes, bytes_eq, Option, Some, None}
use Rattle.predicate_axioms.specs.declared.predicates.Relation.{Relation}
use Rattle.predicate_axioms.specs.declared.predicates.Relation.TheVariants.{Equal, Below, Above}

-- of two classes or two properties (SKOS)
abbrev pub of_both : List ℕ → Option Relation
of_both predicate =
    if bytes_eq predicate (codes "http://www.w3.org/2004/02/skos/core#exactMatch") then Some Equal else
    if bytes_eq predicate (codes "http://www.w3.org/2004/02/skos/core#broadMatch") then Some Below else
    if bytes_eq predicate (codes "http://www.w3.org/2004/02/skos/core#narrowMatch") then Some Above else None

-- of two classes
abbrev pub of_classes : List ℕ → Option Relation
of_classes predicate =
    if bytes_eq predicate (codes "http://www.w3.org/2002/07/owl#equivalentClass") then Some Equal else
    if bytes_eq predicate (codes "http://www.w3.org/2000/01/rdf-schema#subClassOf") then Some Below else of_both predicate

-- of two properties
abbrev pub of_properties : List ℕ → Option Relation
of_properties predicate =
    if bytes_eq predicate (codes "http://www.w3.org/2002/07/owl#equivalentProperty") then Some Equal else
    if bytes_eq predicate (codes "http://www.w3.org/2000/01/rdf-schema#subPropertyOf") then Some Below else of_both predicate
