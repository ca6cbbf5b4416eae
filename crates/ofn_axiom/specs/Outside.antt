-- What is outside the fragment, by cases as the syntax has them: the item is right up to a first
-- head or property, at a place, that is outside.
use Rattle.std.specs.Prelude.{◌≡◌, ℕ, true, List, [], ◌∷◌, ◌++◌, Some, ⊤}
use Rattle.ofn_lex.specs.declared.token.Token.{Token}
use Rattle.ofn_term.specs.declared.item.Item.{Item}
use Rattle.ofn_term.specs.declared.item.Item.TheVariants as item
use Rattle.ofn_heads.specs.declared.head.Head.{Head}
use Rattle.ofn_heads.specs.declared.head.Head.TheVariants as head
use Rattle.ofn_heads.specs.declared.outside.HeadId.{HeadId}
use Rattle.ofn_heads.specs.declared.outside.HeadId.TheVariants as id
use Rattle.ofn_heads.specs.Names.{is_iri}
use Rattle.text_names.specs.Prefixes.{Prefixes}
use Rattle.ofn_axiom.specs.declared.types.IriExpr.{IriExpr}
use Rattle.ofn_axiom.specs.StandsFor.{top_property, bottom_property, IsHead, IsIri, IsProperty, IsClass, IsChain, AreAnnotations}

-- an item fits as an operand: it is an IRI in form, or a group with a head
pub data Fits (text : List ℕ) : Item → Type 0 where
  iri_fits : (token : Token) → is_iri text token ≡ true → Fits text (item.Atom token)
  group_fits : (word : Token) (items : List Item) (start end : ℕ) →
      Fits text (item.Group (Some word) items start end)

abbrev pub AllFit : List ℕ → List Item → Type 0
AllFit text [] = ⊤
AllFit text (i ∷ is) = Fits text i × AllFit text is

-- a group whose head is outside
pub data IsHeadOutside (text : List ℕ) : Item → ℕ → HeadId → Type 0 where
  outside_head : (word : Token) (items : List Item) (start end : ℕ) (outside : HeadId) →
      IsHead text word (head.Outside outside) →
      IsHeadOutside text (item.Group (Some word) items start end) word.start outside

-- in the place of a property, one of two properties, or a group whose head is outside
pub data IsPropertyOutside (text : List ℕ) (prefixes : Prefixes) : Item → ℕ → HeadId → Type 0 where
  top_outside : (token : Token) → IsIri text prefixes token top_property →
      IsPropertyOutside text prefixes (item.Atom token) token.start id.TopObjectProperty
  bottom_outside : (token : Token) → IsIri text prefixes token bottom_property →
      IsPropertyOutside text prefixes (item.Atom token) token.start id.BottomObjectProperty
  head_for_property : (i : Item) (at : ℕ) (outside : HeadId) → IsHeadOutside text i at outside →
      IsPropertyOutside text prefixes i at outside

-- properties, then one that is outside
pub data IsAmongProperties (text : List ℕ) (prefixes : Prefixes) :
    List Item → ℕ → HeadId → Type 0 where
  property_here : (i : Item) (is : List Item) (at : ℕ) (outside : HeadId) →
      IsPropertyOutside text prefixes i at outside →
      IsAmongProperties text prefixes (i ∷ is) at outside
  property_later : (i : Item) (is : List Item) (iri : List ℕ) (at : ℕ) (outside : HeadId) →
      IsProperty text prefixes i iri → IsAmongProperties text prefixes is at outside →
      IsAmongProperties text prefixes (i ∷ is) at outside

mutual
  -- in the place of a class expression, a group whose head is outside, or something inside of it is
  pub data IsClassOutside (text : List ℕ) (prefixes : Prefixes) : Item → ℕ → HeadId → Type 0 where
    head_for_class : (i : Item) (at : ℕ) (outside : HeadId) → IsHeadOutside text i at outside →
        IsClassOutside text prefixes i at outside
    in_intersection : (word : Token) (items : List Item) (start end at : ℕ) (outside : HeadId) →
        IsHead text word head.ObjectIntersectionOf → AllFit text items →
        IsAmongClasses text prefixes items at outside →
        IsClassOutside text prefixes (item.Group (Some word) items start end) at outside
    in_property : (word : Token) (p c : Item) (start end at : ℕ) (outside : HeadId) →
        IsHead text word head.ObjectSomeValuesFrom → Fits text c →
        IsPropertyOutside text prefixes p at outside →
        IsClassOutside text prefixes (item.Group (Some word) (p ∷ c ∷ []) start end) at outside
    in_filler : (word : Token) (p c : Item) (iri : List ℕ) (start end at : ℕ) (outside : HeadId) →
        IsHead text word head.ObjectSomeValuesFrom → Fits text c →
        IsProperty text prefixes p iri → IsClassOutside text prefixes c at outside →
        IsClassOutside text prefixes (item.Group (Some word) (p ∷ c ∷ []) start end) at outside

  -- class expressions, then one in which something is outside
  pub data IsAmongClasses (text : List ℕ) (prefixes : Prefixes) :
      List Item → ℕ → HeadId → Type 0 where
    class_here : (i : Item) (is : List Item) (at : ℕ) (outside : HeadId) →
        IsClassOutside text prefixes i at outside →
        IsAmongClasses text prefixes (i ∷ is) at outside
    class_later : (i : Item) (is : List Item) (class : IriExpr) (at : ℕ) (outside : HeadId) →
        IsClass text prefixes i class → IsAmongClasses text prefixes is at outside →
        IsAmongClasses text prefixes (i ∷ is) at outside

-- in the place of a chain, the same as of a property, or one of two or more properties is outside
pub data IsChainOutside (text : List ℕ) (prefixes : Prefixes) : Item → ℕ → HeadId → Type 0 where
  single_outside : (i : Item) (at : ℕ) (outside : HeadId) →
      IsPropertyOutside text prefixes i at outside → IsChainOutside text prefixes i at outside
  in_chain : (word : Token) (i j : Item) (is : List Item) (start end at : ℕ) (outside : HeadId) →
      IsHead text word head.ObjectPropertyChain → AllFit text (i ∷ j ∷ is) →
      IsAmongProperties text prefixes (i ∷ j ∷ is) at outside →
      IsChainOutside text prefixes (item.Group (Some word) (i ∷ j ∷ is) start end) at outside

-- operands of the right number, of which each fits, and one is the first in which something is
-- outside
pub data IsInOperands (text : List ℕ) (prefixes : Prefixes) :
    Head → List Item → ℕ → HeadId → Type 0 where
  in_sub_class : (i j : Item) (at : ℕ) (outside : HeadId) → AllFit text (i ∷ j ∷ []) →
      IsAmongClasses text prefixes (i ∷ j ∷ []) at outside →
      IsInOperands text prefixes head.SubClassOf (i ∷ j ∷ []) at outside
  in_equivalent : (is : List Item) (at : ℕ) (outside : HeadId) → AllFit text is →
      IsAmongClasses text prefixes is at outside →
      IsInOperands text prefixes head.EquivalentClasses is at outside
  in_disjoint : (is : List Item) (at : ℕ) (outside : HeadId) → AllFit text is →
      IsAmongClasses text prefixes is at outside →
      IsInOperands text prefixes head.DisjointClasses is at outside
  in_lower_property : (i j : Item) (at : ℕ) (outside : HeadId) → Fits text j →
      IsChainOutside text prefixes i at outside →
      IsInOperands text prefixes head.SubObjectPropertyOf (i ∷ j ∷ []) at outside
  in_upper_property : (i j : Item) (chain : List (List ℕ)) (at : ℕ) (outside : HeadId) →
      IsChain text prefixes i chain → IsPropertyOutside text prefixes j at outside →
      IsInOperands text prefixes head.SubObjectPropertyOf (i ∷ j ∷ []) at outside
  in_equivalent_properties : (is : List Item) (at : ℕ) (outside : HeadId) → AllFit text is →
      IsAmongProperties text prefixes is at outside →
      IsInOperands text prefixes head.EquivalentObjectProperties is at outside
  in_transitive : (i : Item) (at : ℕ) (outside : HeadId) →
      IsPropertyOutside text prefixes i at outside →
      IsInOperands text prefixes head.TransitiveObjectProperty (i ∷ []) at outside
  in_reflexive : (i : Item) (at : ℕ) (outside : HeadId) →
      IsPropertyOutside text prefixes i at outside →
      IsInOperands text prefixes head.ReflexiveObjectProperty (i ∷ []) at outside
  in_domain_property : (i j : Item) (at : ℕ) (outside : HeadId) → Fits text j →
      IsPropertyOutside text prefixes i at outside →
      IsInOperands text prefixes head.ObjectPropertyDomain (i ∷ j ∷ []) at outside
  in_domain_class : (i j : Item) (iri : List ℕ) (at : ℕ) (outside : HeadId) → Fits text j →
      IsProperty text prefixes i iri → IsClassOutside text prefixes j at outside →
      IsInOperands text prefixes head.ObjectPropertyDomain (i ∷ j ∷ []) at outside

-- a direct item whose head is outside, that declares a group whose head is, or that has an operand
-- in which something is
pub data IsOutside (text : List ℕ) (prefixes : Prefixes) : Item → ℕ → HeadId → Type 0 where
  direct_outside : (i : Item) (at : ℕ) (outside : HeadId) → IsHeadOutside text i at outside →
      IsOutside text prefixes i at outside
  entity_outside : (word : Token) (annotations : List Item) (e : Item) (start end at : ℕ)
      (outside : HeadId) → IsHead text word head.Declaration → AreAnnotations text annotations →
      IsHeadOutside text e at outside →
      IsOutside text prefixes (item.Group (Some word) (annotations ++ e ∷ []) start end) at outside
  operand_outside : (word : Token) (h : Head) (annotations operands : List Item)
      (start end at : ℕ) (outside : HeadId) → IsHead text word h → AreAnnotations text annotations →
      IsInOperands text prefixes h operands at outside →
      IsOutside text prefixes (item.Group (Some word) (annotations ++ operands) start end) at
      outside
