-- Heads are found by their names, and a word that is found is its head's name.
use Rattle.std.proofs.Common.{◌≡◌, ◌≢◌, ℕ, Bool, true, false, cond, List, [], ◌∷◌, refl, sym, ap, ◌∙◌}
use Rattle.std.specs.Prelude.{bytes_eq, Option, Some, None}
use Rattle.std.specs.Option.{option_or}
use Rattle.std.specs.Cmp.Lexicographic.{bytes_decides}
use Rattle.ofn_heads.specs.declared.outside.HeadId.{HeadId}
use Rattle.ofn_heads.specs.declared.outside.HeadId.TheVariants as id
use Rattle.ofn_heads.specs.declared.head.Head.{Head}
use Rattle.ofn_heads.specs.declared.head.Head.TheVariants as head
use Rattle.ofn_heads.specs.Heads.{name_of, word_of, first_id, first_head, id_named, head_inside, outside_or_other, inside_or, head_of, class_axioms, data_axioms, assertions, class_expressions, data_ranges, other_names, axiom_heads, expression_heads, document_heads, entity_heads}

-- each head outside the fragment is found by its name
pub id_found : (h : HeadId) → id_named (name_of h) ≡ Some h
id_found id.DisjointUnion = refl
id_found id.ObjectPropertyRange = refl
id_found id.DisjointObjectProperties = refl
id_found id.InverseObjectProperties = refl
id_found id.FunctionalObjectProperty = refl
id_found id.InverseFunctionalObjectProperty = refl
id_found id.IrreflexiveObjectProperty = refl
id_found id.SymmetricObjectProperty = refl
id_found id.AsymmetricObjectProperty = refl
id_found id.SubDataPropertyOf = refl
id_found id.EquivalentDataProperties = refl
id_found id.DisjointDataProperties = refl
id_found id.DataPropertyDomain = refl
id_found id.DataPropertyRange = refl
id_found id.FunctionalDataProperty = refl
id_found id.DatatypeDefinition = refl
id_found id.HasKey = refl
id_found id.SameIndividual = refl
id_found id.DifferentIndividuals = refl
id_found id.ClassAssertion = refl
id_found id.ObjectPropertyAssertion = refl
id_found id.NegativeObjectPropertyAssertion = refl
id_found id.DataPropertyAssertion = refl
id_found id.NegativeDataPropertyAssertion = refl
id_found id.ObjectUnionOf = refl
id_found id.ObjectComplementOf = refl
id_found id.ObjectOneOf = refl
id_found id.ObjectAllValuesFrom = refl
id_found id.ObjectHasValue = refl
id_found id.ObjectHasSelf = refl
id_found id.ObjectMinCardinality = refl
id_found id.ObjectMaxCardinality = refl
id_found id.ObjectExactCardinality = refl
id_found id.DataSomeValuesFrom = refl
id_found id.DataAllValuesFrom = refl
id_found id.DataHasValue = refl
id_found id.DataMinCardinality = refl
id_found id.DataMaxCardinality = refl
id_found id.DataExactCardinality = refl
id_found id.ObjectInverseOf = refl
id_found id.DataIntersectionOf = refl
id_found id.DataUnionOf = refl
id_found id.DataComplementOf = refl
id_found id.DataOneOf = refl
id_found id.DatatypeRestriction = refl
id_found id.Import = refl
id_found id.DLSafeRule = refl
id_found id.TopObjectProperty = refl
id_found id.BottomObjectProperty = refl

-- a name that is found in a list is its head's
pub first_id_name : (hs : List HeadId) (name : List ℕ) (h : HeadId) → first_id hs name ≡ Some h → name ≡ name_of h
first_id_name [] name h found = cc
first_id_name (k ∷ hs) name h found = by (bytes_eq name (name_of k)) refl found (first_id_name hs name h)
  where
    by : (b : Bool) → bytes_eq name (name_of k) ≡ b → cond b (Some k) (first_id hs name) ≡ Some h → (first_id hs name ≡ Some h → name ≡ name_of h) → name ≡ name_of h
    by true e s later = let same : k ≡ h = cc in (bytes_decides name (name_of k)).0 e ∙ ap name_of same
    by false e s later = later s

-- what is found in one of two lists
or_else_case : {X : Type 0} {P : Type 0} (one other : Option X) (x : X) → (one ≡ Some x → P) → (other ≡ Some x → P) → option_or one other ≡ Some x → P
or_else_case (Some y) other x first second found = first found
or_else_case None other x first second found = second found

-- a name that is found is its head's
pub id_name : (name : List ℕ) (h : HeadId) → id_named name ≡ Some h → name ≡ name_of h
id_name name h found =
    or_else_case (first_id class_axioms name) _ h (first_id_name class_axioms name h)
    (or_else_case (first_id data_axioms name) _ h (first_id_name data_axioms name h)
    (or_else_case (first_id assertions name) _ h (first_id_name assertions name h)
    (or_else_case (first_id class_expressions name) _ h (first_id_name class_expressions name h)
    (or_else_case (first_id data_ranges name) _ h (first_id_name data_ranges name h)
    (first_id_name other_names name h))))) found

-- each head but the others is found by its word
pub head_found : (h : Head) → h ≢ head.Other → head_of (word_of h) ≡ h
head_found head.SubClassOf known = refl
head_found head.EquivalentClasses known = refl
head_found head.DisjointClasses known = refl
head_found head.SubObjectPropertyOf known = refl
head_found head.EquivalentObjectProperties known = refl
head_found head.TransitiveObjectProperty known = refl
head_found head.ReflexiveObjectProperty known = refl
head_found head.ObjectPropertyDomain known = refl
head_found head.ObjectIntersectionOf known = refl
head_found head.ObjectSomeValuesFrom known = refl
head_found head.ObjectPropertyChain known = refl
head_found head.Prefix known = refl
head_found head.Ontology known = refl
head_found head.Declaration known = refl
head_found head.Annotation known = refl
head_found head.AnnotationAssertion known = refl
head_found head.SubAnnotationPropertyOf known = refl
head_found head.AnnotationPropertyDomain known = refl
head_found head.AnnotationPropertyRange known = refl
head_found head.Class known = refl
head_found head.ObjectProperty known = refl
head_found head.DataProperty known = refl
head_found head.AnnotationProperty known = refl
head_found head.Datatype known = refl
head_found head.NamedIndividual known = refl
head_found (head.Outside outside) known = by outside
  where
    by : (h : HeadId) → head_of (name_of h) ≡ head.Outside h
    by id.DisjointUnion = refl
    by id.ObjectPropertyRange = refl
    by id.DisjointObjectProperties = refl
    by id.InverseObjectProperties = refl
    by id.FunctionalObjectProperty = refl
    by id.InverseFunctionalObjectProperty = refl
    by id.IrreflexiveObjectProperty = refl
    by id.SymmetricObjectProperty = refl
    by id.AsymmetricObjectProperty = refl
    by id.SubDataPropertyOf = refl
    by id.EquivalentDataProperties = refl
    by id.DisjointDataProperties = refl
    by id.DataPropertyDomain = refl
    by id.DataPropertyRange = refl
    by id.FunctionalDataProperty = refl
    by id.DatatypeDefinition = refl
    by id.HasKey = refl
    by id.SameIndividual = refl
    by id.DifferentIndividuals = refl
    by id.ClassAssertion = refl
    by id.ObjectPropertyAssertion = refl
    by id.NegativeObjectPropertyAssertion = refl
    by id.DataPropertyAssertion = refl
    by id.NegativeDataPropertyAssertion = refl
    by id.ObjectUnionOf = refl
    by id.ObjectComplementOf = refl
    by id.ObjectOneOf = refl
    by id.ObjectAllValuesFrom = refl
    by id.ObjectHasValue = refl
    by id.ObjectHasSelf = refl
    by id.ObjectMinCardinality = refl
    by id.ObjectMaxCardinality = refl
    by id.ObjectExactCardinality = refl
    by id.DataSomeValuesFrom = refl
    by id.DataAllValuesFrom = refl
    by id.DataHasValue = refl
    by id.DataMinCardinality = refl
    by id.DataMaxCardinality = refl
    by id.DataExactCardinality = refl
    by id.ObjectInverseOf = refl
    by id.DataIntersectionOf = refl
    by id.DataUnionOf = refl
    by id.DataComplementOf = refl
    by id.DataOneOf = refl
    by id.DatatypeRestriction = refl
    by id.Import = refl
    by id.DLSafeRule = refl
    by id.TopObjectProperty = refl
    by id.BottomObjectProperty = refl
head_found head.Other known = absurd (known refl)

-- a word that is found in a list is its head's
pub first_head_word : (hs : List Head) (word : List ℕ) (h : Head) → first_head hs word ≡ Some h → word ≡ word_of h
first_head_word [] word h found = cc
first_head_word (k ∷ hs) word h found = by (bytes_eq word (word_of k)) refl found (first_head_word hs word h)
  where
    by : (b : Bool) → bytes_eq word (word_of k) ≡ b → cond b (Some k) (first_head hs word) ≡ Some h → (first_head hs word ≡ Some h → word ≡ word_of h) → word ≡ word_of h
    by true e s later = let same : k ≡ h = cc in (bytes_decides word (word_of k)).0 e ∙ ap word_of same
    by false e s later = later s

-- the same of the whole table
inside_word : (word : List ℕ) (h : Head) → head_inside word ≡ Some h → word ≡ word_of h
inside_word word h found =
    or_else_case (first_head axiom_heads word) _ h (first_head_word axiom_heads word h)
    (or_else_case (first_head expression_heads word) _ h (first_head_word expression_heads word h)
    (or_else_case (first_head document_heads word) _ h (first_head_word document_heads word h)
    (first_head_word entity_heads word h))) found

-- a word that is a head is that head's
pub head_word : (word : List ℕ) (h : Head) → head_of word ≡ h → h ≢ head.Other → word ≡ word_of h
head_word word h found known = by (head_inside word) refl found
  where
    other : (o : Option HeadId) → id_named word ≡ o → outside_or_other o ≡ h → word ≡ word_of h
    other (Some k) e s = id_name word k e ∙ ap word_of s
    other None e s = absurd (known (sym s))

    by : (o : Option Head) → head_inside word ≡ o → inside_or o (outside_or_other (id_named word)) ≡ h → word ≡ word_of h
    by (Some k) e s = inside_word word k e ∙ ap word_of s
    by None e s = other (id_named word) refl s
