-- What the direct items of an ontology say, by cases as the syntax has them.
use Rattle.std.specs.Prelude.{ℕ, List, [], ◌∷◌, ◌++◌, Some}
use Rattle.ofn_lex.specs.declared.token.Token.{Token}
use Rattle.ofn_term.specs.declared.item.Item.{Item}
use Rattle.ofn_term.specs.declared.item.Item.TheVariants as item
use Rattle.ofn_heads.specs.declared.head.Head.{Head}
use Rattle.ofn_heads.specs.declared.head.Head.TheVariants as head
use Rattle.text_names.specs.Prefixes.{Prefixes}
use Rattle.ofn_axiom.specs.declared.types.IriAxiom.{IriAxiom}
use Rattle.ofn_axiom.specs.declared.types.Direct.{Direct}
use Rattle.ofn_axiom.specs.declared.types.Direct.TheVariants as direct
use Rattle.ofn_axiom.specs.StandsFor.{thing, nothing, top_property, bottom_property, IsHead, IsIri, IsClassName, IsPropertyName, AreAnnotations, IsAxiom}

-- what it adds to declare an IRI as an entity of this kind: a name, or nothing
pub data IsDeclaredAs : Head → List ℕ → Direct → Type 0 where
  class : (iri : List ℕ) → IsClassName iri → IsDeclaredAs head.Class iri (direct.Class iri)
  top_class : IsDeclaredAs head.Class thing direct.Nothing
  bottom_class : IsDeclaredAs head.Class nothing direct.Nothing
  property : (iri : List ℕ) → IsPropertyName iri →
      IsDeclaredAs head.ObjectProperty iri (direct.Property iri)
  top : IsDeclaredAs head.ObjectProperty top_property direct.Nothing
  bottom : IsDeclaredAs head.ObjectProperty bottom_property direct.Nothing
  data_property : (iri : List ℕ) → IsDeclaredAs head.DataProperty iri direct.Nothing
  annotation_property : (iri : List ℕ) → IsDeclaredAs head.AnnotationProperty iri direct.Nothing
  datatype : (iri : List ℕ) → IsDeclaredAs head.Datatype iri direct.Nothing
  individual : (iri : List ℕ) → IsDeclaredAs head.NamedIndividual iri direct.Nothing

-- an entity is a group of one IRI, whose head is its kind
pub data IsEntity (text : List ℕ) (prefixes : Prefixes) : Item → Direct → Type 0 where
  entity : (word token : Token) (start end : ℕ) (h : Head) (iri : List ℕ) (d : Direct) →
      IsHead text word h → IsIri text prefixes token iri → IsDeclaredAs h iri d →
      IsEntity text prefixes (item.Group (Some word) (item.Atom token ∷ []) start end) d

-- a declaration is a group of annotations, then an entity
pub data IsDeclaration (text : List ℕ) (prefixes : Prefixes) : Item → Direct → Type 0 where
  declaration : (word : Token) (annotations : List Item) (e : Item) (start end : ℕ) (d : Direct) →
      IsHead text word head.Declaration → AreAnnotations text annotations →
      IsEntity text prefixes e d →
      IsDeclaration text prefixes (item.Group (Some word) (annotations ++ e ∷ []) start end) d

-- a head whose items are not read
pub data IsNoteHead : Head → Type 0 where
  annotation : IsNoteHead head.Annotation
  assertion : IsNoteHead head.AnnotationAssertion
  sub_property : IsNoteHead head.SubAnnotationPropertyOf
  domain : IsNoteHead head.AnnotationPropertyDomain
  range : IsNoteHead head.AnnotationPropertyRange

-- a direct item is a note, which adds nothing, a declaration or an axiom
pub data IsDirect (text : List ℕ) (prefixes : Prefixes) : Item → Direct → Type 0 where
  note : (word : Token) (items : List Item) (start end : ℕ) (h : Head) → IsHead text word h →
      IsNoteHead h → IsDirect text prefixes (item.Group (Some word) items start end) direct.Nothing
  declares : (i : Item) (d : Direct) → IsDeclaration text prefixes i d →
      IsDirect text prefixes i d
  states : (i : Item) (a : IriAxiom) → IsAxiom text prefixes i a →
      IsDirect text prefixes i (direct.Axiom a)
