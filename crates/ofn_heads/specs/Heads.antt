-- The table of heads.
use Rattle.std.specs.Prelude.{ℕ, List, [], ◌∷◌, codes, bytes_eq, if◌then◌else◌, Option, Some, None}
use Rattle.std.specs.Option.{option_or}
use Rattle.ofn_heads.specs.declared.outside.HeadId.{HeadId}
use Rattle.ofn_heads.specs.declared.outside.HeadId.TheVariants as id
use Rattle.ofn_heads.specs.declared.head.Head.{Head}
use Rattle.ofn_heads.specs.declared.head.Head.TheVariants as head

-- the name of a head outside the fragment
abbrev pub name_of : HeadId → List ℕ
name_of id.DisjointUnion = codes "DisjointUnion"
name_of id.ObjectPropertyRange = codes "ObjectPropertyRange"
name_of id.DisjointObjectProperties = codes "DisjointObjectProperties"
name_of id.InverseObjectProperties = codes "InverseObjectProperties"
name_of id.FunctionalObjectProperty = codes "FunctionalObjectProperty"
name_of id.InverseFunctionalObjectProperty = codes "InverseFunctionalObjectProperty"
name_of id.IrreflexiveObjectProperty = codes "IrreflexiveObjectProperty"
name_of id.SymmetricObjectProperty = codes "SymmetricObjectProperty"
name_of id.AsymmetricObjectProperty = codes "AsymmetricObjectProperty"
name_of id.SubDataPropertyOf = codes "SubDataPropertyOf"
name_of id.EquivalentDataProperties = codes "EquivalentDataProperties"
name_of id.DisjointDataProperties = codes "DisjointDataProperties"
name_of id.DataPropertyDomain = codes "DataPropertyDomain"
name_of id.DataPropertyRange = codes "DataPropertyRange"
name_of id.FunctionalDataProperty = codes "FunctionalDataProperty"
name_of id.DatatypeDefinition = codes "DatatypeDefinition"
name_of id.HasKey = codes "HasKey"
name_of id.SameIndividual = codes "SameIndividual"
name_of id.DifferentIndividuals = codes "DifferentIndividuals"
name_of id.ClassAssertion = codes "ClassAssertion"
name_of id.ObjectPropertyAssertion = codes "ObjectPropertyAssertion"
name_of id.NegativeObjectPropertyAssertion = codes "NegativeObjectPropertyAssertion"
name_of id.DataPropertyAssertion = codes "DataPropertyAssertion"
name_of id.NegativeDataPropertyAssertion = codes "NegativeDataPropertyAssertion"
name_of id.ObjectUnionOf = codes "ObjectUnionOf"
name_of id.ObjectComplementOf = codes "ObjectComplementOf"
name_of id.ObjectOneOf = codes "ObjectOneOf"
name_of id.ObjectAllValuesFrom = codes "ObjectAllValuesFrom"
name_of id.ObjectHasValue = codes "ObjectHasValue"
name_of id.ObjectHasSelf = codes "ObjectHasSelf"
name_of id.ObjectMinCardinality = codes "ObjectMinCardinality"
name_of id.ObjectMaxCardinality = codes "ObjectMaxCardinality"
name_of id.ObjectExactCardinality = codes "ObjectExactCardinality"
name_of id.DataSomeValuesFrom = codes "DataSomeValuesFrom"
name_of id.DataAllValuesFrom = codes "DataAllValuesFrom"
name_of id.DataHasValue = codes "DataHasValue"
name_of id.DataMinCardinality = codes "DataMinCardinality"
name_of id.DataMaxCardinality = codes "DataMaxCardinality"
name_of id.DataExactCardinality = codes "DataExactCardinality"
name_of id.ObjectInverseOf = codes "ObjectInverseOf"
name_of id.DataIntersectionOf = codes "DataIntersectionOf"
name_of id.DataUnionOf = codes "DataUnionOf"
name_of id.DataComplementOf = codes "DataComplementOf"
name_of id.DataOneOf = codes "DataOneOf"
name_of id.DatatypeRestriction = codes "DatatypeRestriction"
name_of id.Import = codes "Import"
name_of id.DLSafeRule = codes "DLSafeRule"
name_of id.TopObjectProperty = codes "owl:topObjectProperty"
name_of id.BottomObjectProperty = codes "owl:bottomObjectProperty"

-- the word of a head; of any other word the table says nothing
abbrev pub word_of : Head → List ℕ
word_of head.SubClassOf = codes "SubClassOf"
word_of head.EquivalentClasses = codes "EquivalentClasses"
word_of head.DisjointClasses = codes "DisjointClasses"
word_of head.SubObjectPropertyOf = codes "SubObjectPropertyOf"
word_of head.EquivalentObjectProperties = codes "EquivalentObjectProperties"
word_of head.TransitiveObjectProperty = codes "TransitiveObjectProperty"
word_of head.ReflexiveObjectProperty = codes "ReflexiveObjectProperty"
word_of head.ObjectPropertyDomain = codes "ObjectPropertyDomain"
word_of head.ObjectIntersectionOf = codes "ObjectIntersectionOf"
word_of head.ObjectSomeValuesFrom = codes "ObjectSomeValuesFrom"
word_of head.ObjectPropertyChain = codes "ObjectPropertyChain"
word_of head.Prefix = codes "Prefix"
word_of head.Ontology = codes "Ontology"
word_of head.Declaration = codes "Declaration"
word_of head.Annotation = codes "Annotation"
word_of head.AnnotationAssertion = codes "AnnotationAssertion"
word_of head.SubAnnotationPropertyOf = codes "SubAnnotationPropertyOf"
word_of head.AnnotationPropertyDomain = codes "AnnotationPropertyDomain"
word_of head.AnnotationPropertyRange = codes "AnnotationPropertyRange"
word_of head.Class = codes "Class"
word_of head.ObjectProperty = codes "ObjectProperty"
word_of head.DataProperty = codes "DataProperty"
word_of head.AnnotationProperty = codes "AnnotationProperty"
word_of head.Datatype = codes "Datatype"
word_of head.NamedIndividual = codes "NamedIndividual"
word_of (head.Outside outside) = name_of outside
word_of head.Other = []

abbrev pub class_axioms : List HeadId
class_axioms =
    id.DisjointUnion ∷ id.ObjectPropertyRange ∷ id.DisjointObjectProperties ∷
    id.InverseObjectProperties ∷ id.FunctionalObjectProperty ∷
    id.InverseFunctionalObjectProperty ∷ id.IrreflexiveObjectProperty ∷
    id.SymmetricObjectProperty ∷ id.AsymmetricObjectProperty ∷ []

abbrev pub data_axioms : List HeadId
data_axioms =
    id.SubDataPropertyOf ∷ id.EquivalentDataProperties ∷ id.DisjointDataProperties ∷
    id.DataPropertyDomain ∷ id.DataPropertyRange ∷ id.FunctionalDataProperty ∷
    id.DatatypeDefinition ∷ []

abbrev pub assertions : List HeadId
assertions =
    id.HasKey ∷ id.SameIndividual ∷ id.DifferentIndividuals ∷ id.ClassAssertion ∷
    id.ObjectPropertyAssertion ∷ id.NegativeObjectPropertyAssertion ∷ id.DataPropertyAssertion ∷
    id.NegativeDataPropertyAssertion ∷ []

abbrev pub class_expressions : List HeadId
class_expressions =
    id.ObjectUnionOf ∷ id.ObjectComplementOf ∷ id.ObjectOneOf ∷ id.ObjectAllValuesFrom ∷
    id.ObjectHasValue ∷ id.ObjectHasSelf ∷ id.ObjectMinCardinality ∷ id.ObjectMaxCardinality ∷
    id.ObjectExactCardinality ∷ id.DataSomeValuesFrom ∷ id.DataAllValuesFrom ∷ id.DataHasValue ∷
    id.DataMinCardinality ∷ id.DataMaxCardinality ∷ id.DataExactCardinality ∷ []

abbrev pub data_ranges : List HeadId
data_ranges =
    id.ObjectInverseOf ∷ id.DataIntersectionOf ∷ id.DataUnionOf ∷ id.DataComplementOf ∷
    id.DataOneOf ∷ id.DatatypeRestriction ∷ []

abbrev pub other_names : List HeadId
other_names =
    id.Import ∷ id.DLSafeRule ∷ id.TopObjectProperty ∷ id.BottomObjectProperty ∷ []

abbrev pub axiom_heads : List Head
axiom_heads =
    head.SubClassOf ∷ head.EquivalentClasses ∷ head.DisjointClasses ∷ head.SubObjectPropertyOf ∷
    head.EquivalentObjectProperties ∷ head.TransitiveObjectProperty ∷
    head.ReflexiveObjectProperty ∷ head.ObjectPropertyDomain ∷ []

abbrev pub expression_heads : List Head
expression_heads =
    head.ObjectIntersectionOf ∷ head.ObjectSomeValuesFrom ∷ head.ObjectPropertyChain ∷ []

abbrev pub document_heads : List Head
document_heads =
    head.Prefix ∷ head.Ontology ∷ head.Declaration ∷ head.Annotation ∷ head.AnnotationAssertion ∷
    head.SubAnnotationPropertyOf ∷ head.AnnotationPropertyDomain ∷ head.AnnotationPropertyRange ∷
    []

abbrev pub entity_heads : List Head
entity_heads =
    head.Class ∷ head.ObjectProperty ∷ head.DataProperty ∷ head.AnnotationProperty ∷
    head.Datatype ∷ head.NamedIndividual ∷ []

-- the first of these heads that has the name
abbrev pub first_id : List HeadId → List ℕ → Option HeadId
first_id [] name = None
first_id (h ∷ hs) name = if bytes_eq name (name_of h) then Some h else first_id hs name

-- the first of these heads that has the word
abbrev pub first_head : List Head → List ℕ → Option Head
first_head [] word = None
first_head (h ∷ hs) word = if bytes_eq word (word_of h) then Some h else first_head hs word

-- the head outside the fragment that has a name
abbrev pub id_named : List ℕ → Option HeadId
id_named name =
    option_or (first_id class_axioms name) (
    option_or (first_id data_axioms name) (
    option_or (first_id assertions name) (
    option_or (first_id class_expressions name) (
    option_or (first_id data_ranges name) (
    first_id other_names name)))))

-- the head of the fragment that is a word
abbrev pub head_inside : List ℕ → Option Head
head_inside word =
    option_or (first_head axiom_heads word) (
    option_or (first_head expression_heads word) (
    option_or (first_head document_heads word) (
    first_head entity_heads word)))

abbrev pub outside_or_other : Option HeadId → Head
outside_or_other (Some outside) = head.Outside outside
outside_or_other None = head.Other

abbrev pub inside_or : Option Head → Head → Head
inside_or (Some h) word = h
inside_or None word = word

-- the head that a word is
abbrev pub head_of : List ℕ → Head
head_of word = inside_or (head_inside word) (outside_or_other (id_named word))
