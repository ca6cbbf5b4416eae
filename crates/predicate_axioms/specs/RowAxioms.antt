-- The axioms of a row.
use Rattle.std.specs.Prelude.{◌<◌, ℕ, List, [], ◌∷◌, if◌then◌else◌, codes, bytes_eq, Option, Some, None, ⊤}
use Rattle.std.specs.Option.{option_map}
use Rattle.text_names.specs.Names.{number_of}
use Rattle.el_logic.specs.declared.types.Expr.{Expr}
use Rattle.el_logic.specs.declared.types.Expr.TheVariants.{Top, Bottom, Name}
use Rattle.el_logic.specs.declared.types.Axiom.{Axiom}
use Rattle.el_logic.specs.declared.types.Axiom.TheVariants.{SubClass, SubRole}
use Rattle.sssom_rows.specs.declared.table.Row.{Row}
use Rattle.predicate_axioms.specs.declared.predicates.Relation.{Relation}
use Rattle.predicate_axioms.specs.declared.predicates.Relation.TheVariants.{Equal, Below, Above}
use Rattle.predicate_axioms.specs.Predicates.{of_classes, of_properties}

-- the class that an IRI names: owl:Thing, owl:Nothing, or one of these names
abbrev pub class_of : List (List ℕ) → List ℕ → Option Expr
class_of classes iri =
    if bytes_eq iri (codes "http://www.w3.org/2002/07/owl#Thing") then Some Top else
    if bytes_eq iri (codes "http://www.w3.org/2002/07/owl#Nothing") then Some Bottom else option_map Name (number_of classes iri)

-- two classes in a relation
abbrev pub class_axioms : Option Relation → Expr → Expr → List Axiom
class_axioms None subject object = []
class_axioms (Some Equal) subject object = SubClass subject object ∷ SubClass object subject ∷ []
class_axioms (Some Below) subject object = SubClass subject object ∷ []
class_axioms (Some Above) subject object = SubClass object subject ∷ []

-- two properties in a relation
abbrev pub property_axioms : Option Relation → ℕ → ℕ → List Axiom
property_axioms None subject object = []
property_axioms (Some Equal) subject object = SubRole (subject ∷ []) object ∷ SubRole (object ∷ []) subject ∷ []
property_axioms (Some Below) subject object = SubRole (subject ∷ []) object ∷ []
property_axioms (Some Above) subject object = SubRole (object ∷ []) subject ∷ []

-- two names of which none is a class
abbrev pub by_properties : Option Relation → Option ℕ → Option ℕ → List Axiom
by_properties relation (Some subject) (Some object) = property_axioms relation subject object
by_properties relation (Some subject) None = []
by_properties relation None object = []

-- two names, each with the class that it is, if it is one: a name that is a class and a property counts as a class
abbrev pub by_classes : Option Relation → List Axiom → Option Expr → Option Expr → List Axiom
by_classes relation others (Some subject) (Some object) = class_axioms relation subject object
by_classes relation others (Some subject) None = []
by_classes relation others None (Some object) = []
by_classes relation others None None = others

-- the axioms of a predicate between two names
abbrev pub axioms_between : List (List ℕ) → List (List ℕ) → List ℕ → List ℕ → List ℕ → List Axiom
axioms_between classes roles predicate subject object =
    let others = by_properties (of_properties predicate) (number_of roles subject) (number_of roles object) in
    by_classes (of_classes predicate) others (class_of classes subject) (class_of classes object)

-- an empty id gives no axioms
abbrev pub by_ids : List (List ℕ) → List (List ℕ) → Option (List ℕ) → Option (List ℕ) → Option (List ℕ) → List Axiom
by_ids classes roles (Some predicate) (Some subject) (Some object) = axioms_between classes roles predicate subject object
by_ids classes roles (Some predicate) (Some subject) None = []
by_ids classes roles (Some predicate) None object = []
by_ids classes roles None subject object = []

-- the axioms of a row, where these are the names of the classes and of the properties; a row with a modifier has none
abbrev pub row_axioms : List (List ℕ) → List (List ℕ) → Row → List Axiom
row_axioms classes roles row = if row.modified then [] else by_ids classes roles row.predicate row.subject row.object

-- a class among so many
abbrev pub IsRowClass : ℕ → Expr → Type 0
IsRowClass classes Top = ⊤
IsRowClass classes Bottom = ⊤
IsRowClass classes (Name number) = number < classes
IsRowClass classes _ = ⊥

-- one class below another, or one property below another
abbrev pub IsRowAxiom : ℕ → ℕ → Axiom → Type 0
IsRowAxiom classes roles (SubClass lower upper) = IsRowClass classes lower × IsRowClass classes upper
IsRowAxiom classes roles (SubRole (lower ∷ []) upper) = (lower < roles) × (upper < roles)
IsRowAxiom classes roles _ = ⊥
