-- The numbers in the axioms of a row are those of names.
use Rattle.std.proofs.Common.{◌≡◌, ◌<◌, ℕ, Bool, true, false, List, [], ◌∷◌, length, Option, Some, None, refl, cond}
use Rattle.std.specs.Prelude.{⊤, All}
use Rattle.std.specs.Option.{option_map}
use Rattle.std.specs.Prelude.{bytes_eq, codes}
use Rattle.std.proofs.lemmas.List.Elements.{All-nil, All-cons}
use Rattle.std.proofs.lemmas.List.Quantifiers.{position-Some}
use Rattle.text_names.specs.Names.{number_of}
use Rattle.el_logic.specs.declared.types.Expr.{Expr}
use Rattle.el_logic.specs.declared.types.Expr.TheVariants.{Top, Bottom, Name}
use Rattle.el_logic.specs.declared.types.Axiom.{Axiom}
use Rattle.el_logic.specs.declared.types.Axiom.TheVariants.{SubClass, SubRole}
use Rattle.predicate_axioms.specs.declared.predicates.Relation.{Relation}
use Rattle.predicate_axioms.specs.declared.predicates.Relation.TheVariants.{Equal, Below, Above}
use Rattle.predicate_axioms.specs.Predicates.{of_classes, of_properties}
use Rattle.predicate_axioms.specs.RowAxioms.{class_of, class_axioms, property_axioms, by_properties, by_classes, by_ids, IsRowClass, IsRowAxiom}

-- a number that is found is below so many
abbrev pub NumberWithin : ℕ → Option ℕ → Type 0
NumberWithin count None = ⊤
NumberWithin count (Some number) = number < count

-- a class that is found has a number below so many, if it has one
abbrev pub ClassWithin : ℕ → Option Expr → Type 0
ClassWithin count None = ⊤
ClassWithin count (Some class) = IsRowClass count class

found_within : (names : List (List ℕ)) (name : List ℕ) (found : Option ℕ) → number_of names name ≡ found → NumberWithin (length names) found
found_within names name None is = tt
found_within names name (Some number) is = (position-Some (bytes_eq name) names number [] is).0

number_within : (names : List (List ℕ)) (name : List ℕ) → NumberWithin (length names) (number_of names name)
number_within names name = found_within names name (number_of names name) refl

named_within : (count : ℕ) (found : Option ℕ) → NumberWithin count found → ClassWithin count (option_map Name found)
named_within count None within = tt
named_within count (Some number) within = within

class_by : (thing nothing : Bool) (count : ℕ) (found : Option Expr) → ClassWithin count found
    → ClassWithin count (cond thing (Some Top) (cond nothing (Some Bottom) found))
class_by true nothing count found within = tt
class_by false true count found within = tt
class_by false false count found within = within

class_within : (classes : List (List ℕ)) (iri : List ℕ) → ClassWithin (length classes) (class_of classes iri)
class_within classes iri =
    class_by (bytes_eq iri (codes "http://www.w3.org/2002/07/owl#Thing")) (bytes_eq iri (codes "http://www.w3.org/2002/07/owl#Nothing"))
    (length classes) (option_map Name (number_of classes iri)) (named_within (length classes) (number_of classes iri) (number_within classes iri))

one : (classes roles : ℕ) (a : Axiom) → IsRowAxiom classes roles a → All (IsRowAxiom classes roles) (a ∷ [])
one classes roles a is = All-cons (IsRowAxiom classes roles) a [] is (All-nil (IsRowAxiom classes roles))

two : (classes roles : ℕ) (a b : Axiom) → IsRowAxiom classes roles a → IsRowAxiom classes roles b → All (IsRowAxiom classes roles) (a ∷ b ∷ [])
two classes roles a b is also = All-cons (IsRowAxiom classes roles) a (b ∷ []) is (one classes roles b also)

class_axioms_within : (classes roles : ℕ) (relation : Option Relation) (s o : Expr) → IsRowClass classes s → IsRowClass classes o
    → All (IsRowAxiom classes roles) (class_axioms relation s o)
class_axioms_within classes roles None s o is also = All-nil (IsRowAxiom classes roles)
class_axioms_within classes roles (Some Equal) s o is also = two classes roles (SubClass s o) (SubClass o s) (is, also) (also, is)
class_axioms_within classes roles (Some Below) s o is also = one classes roles (SubClass s o) (is, also)
class_axioms_within classes roles (Some Above) s o is also = one classes roles (SubClass o s) (also, is)

property_axioms_within : (classes roles : ℕ) (relation : Option Relation) (s o : ℕ) → s < roles → o < roles
    → All (IsRowAxiom classes roles) (property_axioms relation s o)
property_axioms_within classes roles None s o is also = All-nil (IsRowAxiom classes roles)
property_axioms_within classes roles (Some Equal) s o is also = two classes roles (SubRole (s ∷ []) o) (SubRole (o ∷ []) s) (is, also) (also, is)
property_axioms_within classes roles (Some Below) s o is also = one classes roles (SubRole (s ∷ []) o) (is, also)
property_axioms_within classes roles (Some Above) s o is also = one classes roles (SubRole (o ∷ []) s) (also, is)

properties_within : (classes roles : ℕ) (relation : Option Relation) (s o : Option ℕ) → NumberWithin roles s → NumberWithin roles o
    → All (IsRowAxiom classes roles) (by_properties relation s o)
properties_within classes roles relation None o is also = All-nil (IsRowAxiom classes roles)
properties_within classes roles relation (Some s) None is also = All-nil (IsRowAxiom classes roles)
properties_within classes roles relation (Some s) (Some o) is also = property_axioms_within classes roles relation s o is also

classes_within : (classes roles : ℕ) (relation : Option Relation) (others : List Axiom) (s o : Option Expr) → ClassWithin classes s → ClassWithin classes o
    → All (IsRowAxiom classes roles) others → All (IsRowAxiom classes roles) (by_classes relation others s o)
classes_within classes roles relation others None None is also rest = rest
classes_within classes roles relation others None (Some o) is also rest = All-nil (IsRowAxiom classes roles)
classes_within classes roles relation others (Some s) None is also rest = All-nil (IsRowAxiom classes roles)
classes_within classes roles relation others (Some s) (Some o) is also rest = class_axioms_within classes roles relation s o is also

pub ids_within : (classes roles : List (List ℕ)) (p s o : Option (List ℕ)) → All (IsRowAxiom (length classes) (length roles)) (by_ids classes roles p s o)
ids_within classes roles None s o = All-nil (IsRowAxiom (length classes) (length roles))
ids_within classes roles (Some p) None o = All-nil (IsRowAxiom (length classes) (length roles))
ids_within classes roles (Some p) (Some s) None = All-nil (IsRowAxiom (length classes) (length roles))
ids_within classes roles (Some p) (Some s) (Some o) =
    classes_within (length classes) (length roles) (of_classes p) _ (class_of classes s) (class_of classes o) (class_within classes s) (class_within classes o)
    (properties_within (length classes) (length roles) (of_properties p) (number_of roles s) (number_of roles o) (number_within roles s) (number_within roles o))

-- a row with a modifier has none
pub unless_modified : (classes roles : ℕ) (modified : Bool) (axioms : List Axiom) → All (IsRowAxiom classes roles) axioms
    → All (IsRowAxiom classes roles) (cond modified [] axioms)
unless_modified classes roles true axioms all = All-nil (IsRowAxiom classes roles)
unless_modified classes roles false axioms all = all
