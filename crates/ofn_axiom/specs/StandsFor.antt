-- What items stand for, by cases as the syntax has them.
use Rattle.std.specs.Prelude.{◌≡◌, ◌≢◌, ℕ, true, List, [], ◌∷◌, ◌++◌, codes, Some, ⊤}
use Rattle.ofn_lex.specs.declared.token.Token.{Token}
use Rattle.ofn_lex.specs.declared.token.TokenKind.TheVariants as kind
use Rattle.ofn_term.specs.declared.item.Item.{Item}
use Rattle.ofn_term.specs.declared.item.Item.TheVariants as item
use Rattle.ofn_term.specs.Words.{bytes_of}
use Rattle.ofn_heads.specs.declared.head.Head.{Head}
use Rattle.ofn_heads.specs.declared.head.Head.TheVariants as head
use Rattle.ofn_heads.specs.Heads.{head_of}
use Rattle.ofn_heads.specs.Names.{iri_between, spelling}
use Rattle.text_names.specs.Prefixes.{Prefixes, iri_of, has_colon, prefix_of, rest_of}
use Rattle.ofn_axiom.specs.declared.types.IriExpr.{IriExpr}
use Rattle.ofn_axiom.specs.declared.types.IriExpr.TheVariants as expr
use Rattle.ofn_axiom.specs.declared.types.IriAxiom.{IriAxiom}
use Rattle.ofn_axiom.specs.declared.types.IriAxiom.TheVariants as ax

abbrev pub thing : List ℕ
thing = codes "http://www.w3.org/2002/07/owl#Thing"

abbrev pub nothing : List ℕ
nothing = codes "http://www.w3.org/2002/07/owl#Nothing"

abbrev pub top_property : List ℕ
top_property = codes "http://www.w3.org/2002/07/owl#topObjectProperty"

abbrev pub bottom_property : List ℕ
bottom_property = codes "http://www.w3.org/2002/07/owl#bottomObjectProperty"

-- the token is a full IRI, or an abbreviated one whose prefix is declared
pub data IsIri (text : List ℕ) (prefixes : Prefixes) (token : Token) : List ℕ → Type 0 where
  full : (iri : List ℕ) → token.kind ≡ kind.FullIri → iri ≡ iri_between text token →
      IsIri text prefixes token iri
  short : (iri held : List ℕ) → token.kind ≡ kind.Run → has_colon (spelling text token) ≡ true →
      iri_of prefixes (prefix_of (spelling text token)) ≡ Some held →
      iri ≡ held ++ rest_of (spelling text token) → IsIri text prefixes token iri

-- the word is this head in the table of heads
abbrev pub IsHead : List ℕ → Token → Head → Type 0
IsHead text word head = head_of (bytes_of text word) ≡ head

-- an IRI other than the two that are no names of classes
pub record IsClassName (iri : List ℕ) : Type 0 where
  pub not_thing : iri ≢ thing
  pub not_nothing : iri ≢ nothing

-- an IRI other than the two properties outside the fragment
pub record IsPropertyName (iri : List ℕ) : Type 0 where
  pub not_top : iri ≢ top_property
  pub not_bottom : iri ≢ bottom_property

-- a property is an IRI
pub data IsProperty (text : List ℕ) (prefixes : Prefixes) : Item → List ℕ → Type 0 where
  property : (token : Token) (iri : List ℕ) → IsIri text prefixes token iri → IsPropertyName iri →
      IsProperty text prefixes (item.Atom token) iri

-- items stand for properties, each for one
abbrev pub AreProperties : List ℕ → Prefixes → List Item → List (List ℕ) → Type 0
AreProperties text prefixes [] [] = ⊤
AreProperties text prefixes [] (iri ∷ iris) = ⊥
AreProperties text prefixes (i ∷ is) [] = ⊥
AreProperties text prefixes (i ∷ is) (iri ∷ iris) =
    IsProperty text prefixes i iri × AreProperties text prefixes is iris

mutual
  -- a class expression is an IRI, an intersection of one or more, or a restriction
  pub data IsClass (text : List ℕ) (prefixes : Prefixes) : Item → IriExpr → Type 0 where
    top : (token : Token) → IsIri text prefixes token thing →
        IsClass text prefixes (item.Atom token) expr.Top
    bottom : (token : Token) → IsIri text prefixes token nothing →
        IsClass text prefixes (item.Atom token) expr.Bottom
    class : (token : Token) (iri : List ℕ) → IsIri text prefixes token iri → IsClassName iri →
        IsClass text prefixes (item.Atom token) (expr.Class iri)
    intersection : (word : Token) (i : Item) (is : List Item) (start end : ℕ)
        (classes : List IriExpr) → IsHead text word head.ObjectIntersectionOf →
        AreClasses text prefixes (i ∷ is) classes →
        IsClass text prefixes (item.Group (Some word) (i ∷ is) start end) (expr.And classes)
    restriction : (word : Token) (p c : Item) (start end : ℕ) (iri : List ℕ) (filler : IriExpr) →
        IsHead text word head.ObjectSomeValuesFrom → IsProperty text prefixes p iri →
        IsClass text prefixes c filler →
        IsClass text prefixes (item.Group (Some word) (p ∷ c ∷ []) start end)
        (expr.Exists iri filler)

  -- items stand for class expressions, each for one
  pub data AreClasses (text : List ℕ) (prefixes : Prefixes) :
      List Item → List IriExpr → Type 0 where
    none : AreClasses text prefixes [] []
    one_more : (i : Item) (is : List Item) (class : IriExpr) (classes : List IriExpr) →
        IsClass text prefixes i class → AreClasses text prefixes is classes →
        AreClasses text prefixes (i ∷ is) (class ∷ classes)

-- one property, or a chain of two or more
pub data IsChain (text : List ℕ) (prefixes : Prefixes) : Item → List (List ℕ) → Type 0 where
  single : (i : Item) (iri : List ℕ) → IsProperty text prefixes i iri →
      IsChain text prefixes i (iri ∷ [])
  chained : (word : Token) (i j : Item) (is : List Item) (start end : ℕ) (iris : List (List ℕ)) →
      IsHead text word head.ObjectPropertyChain → AreProperties text prefixes (i ∷ j ∷ is) iris →
      IsChain text prefixes (item.Group (Some word) (i ∷ j ∷ is) start end) iris

-- what a head says of its operands
pub data IsAxiomOf (text : List ℕ) (prefixes : Prefixes) :
    Head → List Item → IriAxiom → Type 0 where
  sub_class : (i j : Item) (c d : IriExpr) → IsClass text prefixes i c → IsClass text prefixes j d →
      IsAxiomOf text prefixes head.SubClassOf (i ∷ j ∷ []) (ax.SubClass c d)
  equivalent : (i : Item) (is : List Item) (cs : List IriExpr) →
      AreClasses text prefixes (i ∷ is) cs →
      IsAxiomOf text prefixes head.EquivalentClasses (i ∷ is) (ax.Equivalent cs)
  disjoint : (i : Item) (is : List Item) (cs : List IriExpr) →
      AreClasses text prefixes (i ∷ is) cs →
      IsAxiomOf text prefixes head.DisjointClasses (i ∷ is) (ax.Disjoint cs)
  sub_property : (i j : Item) (chain : List (List ℕ)) (s : List ℕ) → IsChain text prefixes i chain →
      IsProperty text prefixes j s →
      IsAxiomOf text prefixes head.SubObjectPropertyOf (i ∷ j ∷ []) (ax.SubRole chain s)
  equivalent_properties : (i : Item) (is : List Item) (rs : List (List ℕ)) →
      AreProperties text prefixes (i ∷ is) rs →
      IsAxiomOf text prefixes head.EquivalentObjectProperties (i ∷ is) (ax.EquivalentRoles rs)
  transitive : (i : Item) (r : List ℕ) → IsProperty text prefixes i r →
      IsAxiomOf text prefixes head.TransitiveObjectProperty (i ∷ []) (ax.Transitive r)
  reflexive : (i : Item) (r : List ℕ) → IsProperty text prefixes i r →
      IsAxiomOf text prefixes head.ReflexiveObjectProperty (i ∷ []) (ax.Reflexive r)
  domain : (i j : Item) (r : List ℕ) (c : IriExpr) → IsProperty text prefixes i r →
      IsClass text prefixes j c →
      IsAxiomOf text prefixes head.ObjectPropertyDomain (i ∷ j ∷ []) (ax.Domain r c)

-- a group that may stand before the operands of an axiom
pub data IsAnnotation (text : List ℕ) : Item → Type 0 where
  annotation : (word : Token) (items : List Item) (start end : ℕ) →
      IsHead text word head.Annotation →
      IsAnnotation text (item.Group (Some word) items start end)

abbrev pub AreAnnotations : List ℕ → List Item → Type 0
AreAnnotations text [] = ⊤
AreAnnotations text (i ∷ is) = IsAnnotation text i × AreAnnotations text is

-- an axiom is a group of annotations, then operands
pub data IsAxiom (text : List ℕ) (prefixes : Prefixes) : Item → IriAxiom → Type 0 where
  stated : (word : Token) (h : Head) (annotations operands : List Item) (start end : ℕ)
      (a : IriAxiom) → IsHead text word h → AreAnnotations text annotations →
      IsAxiomOf text prefixes h operands a →
      IsAxiom text prefixes (item.Group (Some word) (annotations ++ operands) start end) a
