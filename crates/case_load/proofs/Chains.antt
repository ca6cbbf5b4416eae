-- Chains of a document: each has a property, and no more of them than its item has tokens.
use Rattle.std.proofs.Common.{◌≡◌, ◌≤◌, ℕ, ◌+◌, Bool, true, false, cond, List, [], ◌∷◌, ◌++◌, length, map, sym, ap, subst, ◌∙◌, arith, length-append}
use Rattle.std.specs.Prelude.{Some, None, Result, Ok, Err, codes, bytes_eq, ◌&&◌, ⊤}
use Rattle.std.proofs.lemmas.List.{length-map}
use Rattle.ofn_lex.specs.declared.token.Token.{Token}
use Rattle.ofn_term.specs.declared.item.Item.{Item, fold-Item, roll-Item}
use Rattle.ofn_term.specs.declared.item.Item.TheOpen.{Item-F}
use Rattle.ofn_term.specs.declared.item.Item.TheFolds.{ind-Item, fold-roll-Item}
use Rattle.ofn_term.specs.declared.item.Item.TheVariants as item
use Rattle.ofn_term.specs.declared.item.Item.TheVariants.{rolls-Atom, rolls-Group}
use Rattle.ofn_term.specs.Words.{bytes_of}
use Rattle.ofn_heads.specs.declared.head.Head.{Head}
use Rattle.ofn_heads.specs.declared.head.Head.TheVariants as head
use Rattle.ofn_heads.specs.Heads.{head_of}
use Rattle.ofn_heads.specs.Names.{name_of_token}
use Rattle.text_names.specs.Prefixes.{Prefixes}
use Rattle.ofn_axiom.specs.declared.fault.OffsetFault.{OffsetFault}
use Rattle.ofn_axiom.specs.declared.fault.OffsetFault.TheVariants as fault
use Rattle.ofn_axiom.specs.declared.types.IriAxiom.{IriAxiom}
use Rattle.ofn_axiom.specs.declared.types.IriAxiom.TheVariants as ax
use Rattle.ofn_axiom.specs.declared.types.Direct.{Direct}
use Rattle.ofn_axiom.specs.declared.types.Direct.TheVariants as direct
use Rattle.ofn_axiom.specs.Steps.{◌>>=◌}
use Rattle.ofn_axiom.specs.Given.{Given, given, given_step, given_atom, given_bare, given_group, property_named, alone, all_fit, properties_onto, some_properties, chain_group, sub_class, above, as_sub_class, some_classes, as_equivalent, as_disjoint, sub_property, role_above, as_sub_role, as_equivalent_roles, one_property, as_transitive, as_reflexive, property_and_class, as_domain, axiom_group, as_axiom, one_iri, as_class, as_property, as_nothing, entity_group, declaration, is_annotation, after_annotations, direct_group}
use Rattle.case_load.proofs.Cited.{Cited}
use Rattle.case_load.proofs.Widths.{width, width_of, some_width, few_items, inner_width, width_parts}

-- a chain has a property, and at most so many
abbrev pub IsChain : ℕ → List (List ℕ) → Type 0
IsChain most chain = (1 ≤ length chain) × (length chain ≤ most)

-- the chain of an axiom is one, if it has any
abbrev pub Fits : ℕ → IriAxiom → Type 0
Fits most (ax.SubRole chain s) = IsChain most chain
Fits most _ = ⊤

-- so it is of a direct item
abbrev pub DirectFits : ℕ → Direct → Type 0
DirectFits most (direct.Axiom a) = Fits most a
DirectFits most _ = ⊤

-- of what is read this holds
abbrev pub IfRead : {A : Type 0} → (A → Type 0) → Result A OffsetFault → Type 0
IfRead Holds (Ok x) = Holds x
IfRead Holds (Err f) = ⊤

-- two steps, where the first gives what the second needs
then_holds : {A B : Type 0} (P : A → Type 0) (Q : B → Type 0) (r : Result A OffsetFault) (next : A → Result B OffsetFault) → IfRead P r → ((x : A) → P x → IfRead Q (next x)) → IfRead Q (r >>= next)
then_holds P Q (Ok x) next h more = more x h
then_holds P Q (Err f) next h more = tt

-- two steps, whatever the first gives
any_holds : {A B : Type 0} (Q : B → Type 0) (r : Result A OffsetFault) (next : A → Result B OffsetFault) → ((x : A) → IfRead Q (next x)) → IfRead Q (r >>= next)
any_holds Q (Ok x) next more = more x
any_holds Q (Err f) next more = tt

-- a test
test_holds : {A : Type 0} (Q : A → Type 0) (b : Bool) (r s : Result A OffsetFault) → IfRead Q r → IfRead Q s → IfRead Q (cond b r s)
test_holds Q true r s one other = one
test_holds Q false r s one other = other

-- properties that are read are as many as the items
as_many : (done : List (List ℕ)) (gs : List Given) → IfRead (λ chain. length chain ≡ length done + length gs) (properties_onto done gs)
as_many done [] = omega arith
as_many done (g ∷ gs) =
    any_holds (λ chain. length chain ≡ length done + length (g ∷ gs)) g.property (λ property. properties_onto (done ++ property ∷ []) gs)
    (λ property. by property (properties_onto (done ++ property ∷ []) gs) (as_many (done ++ property ∷ []) gs))
  where
    by : (property : List ℕ) (r : Result (List (List ℕ)) OffsetFault) → IfRead (λ chain. length chain ≡ length (done ++ property ∷ []) + length gs) r → IfRead (λ chain. length chain ≡ length done + length (g ∷ gs)) r
    by property (Ok chain) h = omega (arith, h, length-append done (property ∷ []))
    by property (Err f) h = tt

-- what is asked of an item: as the first item of SubObjectPropertyOf, and as what is declared
pub record IsFit (most : ℕ) (g : Given) : Type 0 where
  pub chain : IfRead (IsChain most) g.chain
  pub entity : IfRead (DirectFits most) g.entity

-- of each item
abbrev AreFit : ℕ → List Given → Type 0
AreFit most [] = ⊤
AreFit most (g ∷ gs) = IsFit most g × AreFit most gs

-- a chain
chain_fits : (most at : ℕ) (h : Head) (gs : List Given) → length gs ≤ most → IfRead (IsChain most) (chain_group at h gs)
chain_fits most at head.ObjectPropertyChain [] few = tt
chain_fits most at head.ObjectPropertyChain (g ∷ []) few = tt
chain_fits most at head.ObjectPropertyChain (g ∷ h ∷ gs) few =
    test_holds (IsChain most) (all_fit (g ∷ h ∷ gs)) (properties_onto [] (g ∷ h ∷ gs)) (Err (fault.Shape at)) (by (properties_onto [] (g ∷ h ∷ gs)) (as_many [] (g ∷ h ∷ gs))) tt
  where
    by : (r : Result (List (List ℕ)) OffsetFault) → IfRead (λ chain. length chain ≡ 0 + length (g ∷ h ∷ gs)) r → IfRead (IsChain most) r
    by (Ok chain) same = (omega (arith, same), omega (arith, same, few))
    by (Err f) same = tt
chain_fits most at _ gs few = tt

-- what is declared is no axiom
class_fits : (most : ℕ) (iri : List ℕ) → IfRead (DirectFits most) (as_class iri)
class_fits most iri =
    test_holds (DirectFits most) (bytes_eq iri (codes "http://www.w3.org/2002/07/owl#Thing")) _ _ tt
    (test_holds (DirectFits most) (bytes_eq iri (codes "http://www.w3.org/2002/07/owl#Nothing")) _ _ tt tt)

-- nor is a property
property_fits : (most : ℕ) (iri : List ℕ) → IfRead (DirectFits most) (as_property iri)
property_fits most iri =
    test_holds (DirectFits most) (bytes_eq iri (codes "http://www.w3.org/2002/07/owl#topObjectProperty")) _ _ tt
    (test_holds (DirectFits most) (bytes_eq iri (codes "http://www.w3.org/2002/07/owl#bottomObjectProperty")) _ _ tt tt)

-- nor anything else
entity_fits : (most at : ℕ) (h : Head) (gs : List Given) → IfRead (DirectFits most) (entity_group at h gs)
entity_fits most at head.Class gs = any_holds (DirectFits most) (one_iri at gs) as_class (class_fits most)
entity_fits most at head.ObjectProperty gs = any_holds (DirectFits most) (one_iri at gs) as_property (property_fits most)
entity_fits most at head.DataProperty gs = any_holds (DirectFits most) (one_iri at gs) as_nothing (λ iri. tt)
entity_fits most at head.AnnotationProperty gs = any_holds (DirectFits most) (one_iri at gs) as_nothing (λ iri. tt)
entity_fits most at head.Datatype gs = any_holds (DirectFits most) (one_iri at gs) as_nothing (λ iri. tt)
entity_fits most at head.NamedIndividual gs = any_holds (DirectFits most) (one_iri at gs) as_nothing (λ iri. tt)
entity_fits most at _ gs = tt

-- an axiom, from items that fit
class_pair : (most at : ℕ) (gs : List Given) → IfRead (Fits most) (sub_class at gs)
class_pair most at [] = tt
class_pair most at (c ∷ []) = tt
class_pair most at (c ∷ d ∷ []) =
    test_holds (Fits most) (c.fits && d.fits) (c.class >>= above d) (Err (fault.Shape at))
    (any_holds (Fits most) c.class (above d) (λ x. any_holds (Fits most) d.class (as_sub_class x) (λ y. tt))) tt
class_pair most at (c ∷ d ∷ g ∷ gs) = tt

-- a property or a chain, then a property
property_pair : (most at : ℕ) (gs : List Given) → AreFit most gs → IfRead (Fits most) (sub_property at gs)
property_pair most at [] fit = tt
property_pair most at (r ∷ []) fit = tt
property_pair most at (r ∷ s ∷ []) fit =
    test_holds (Fits most) (r.fits && s.fits) (r.chain >>= role_above s) (Err (fault.Shape at))
    (then_holds (IsChain most) (Fits most) r.chain (role_above s) fit.0.chain (λ chain is. any_holds (Fits most) s.property (as_sub_role chain) (λ y. is))) tt
property_pair most at (r ∷ s ∷ g ∷ gs) fit = tt

-- any axiom
axiom_fits : (most at : ℕ) (h : Head) (gs : List Given) → AreFit most gs → IfRead (Fits most) (axiom_group at h gs)
axiom_fits most at head.SubClassOf gs fit = class_pair most at gs
axiom_fits most at head.EquivalentClasses gs fit = any_holds (Fits most) (some_classes at gs) as_equivalent (λ x. tt)
axiom_fits most at head.DisjointClasses gs fit = any_holds (Fits most) (some_classes at gs) as_disjoint (λ x. tt)
axiom_fits most at head.SubObjectPropertyOf gs fit = property_pair most at gs fit
axiom_fits most at head.EquivalentObjectProperties gs fit = any_holds (Fits most) (some_properties at gs) as_equivalent_roles (λ x. tt)
axiom_fits most at head.TransitiveObjectProperty gs fit = any_holds (Fits most) (one_property at gs) as_transitive (λ x. tt)
axiom_fits most at head.ReflexiveObjectProperty gs fit = any_holds (Fits most) (one_property at gs) as_reflexive (λ x. tt)
axiom_fits most at head.ObjectPropertyDomain gs fit = any_holds (Fits most) (property_and_class at gs) as_domain (λ x. tt)
axiom_fits most at _ gs fit = tt

-- what follows the annotations
rest_fits : (most : ℕ) (gs : List Given) → AreFit most gs → AreFit most (after_annotations gs)
rest_fits most [] fit = tt
rest_fits most (g ∷ gs) fit = by (is_annotation g.head) (rest_fits most gs fit.1)
  where
    by : (b : Bool) → AreFit most (after_annotations gs) → AreFit most (cond b (after_annotations gs) (g ∷ gs))
    by true rest = rest
    by false rest = fit

-- a declaration
declaration_fits : (most at : ℕ) (gs : List Given) → AreFit most gs → IfRead (DirectFits most) (declaration at gs)
declaration_fits most at [] fit = tt
declaration_fits most at (g ∷ []) fit = test_holds (DirectFits most) g.headed g.entity (Err (fault.Shape at)) fit.0.entity tt
declaration_fits most at (g ∷ h ∷ gs) fit = tt

-- a direct item of an ontology, from items that fit
direct_fits : (most at : ℕ) (h : Head) (gs : List Given) → AreFit most gs → IfRead (DirectFits most) (direct_group at h gs)
direct_fits most at head.Annotation gs fit = tt
direct_fits most at head.AnnotationAssertion gs fit = tt
direct_fits most at head.SubAnnotationPropertyOf gs fit = tt
direct_fits most at head.AnnotationPropertyDomain gs fit = tt
direct_fits most at head.AnnotationPropertyRange gs fit = tt
direct_fits most at head.Declaration gs fit = declaration_fits most at (after_annotations gs) (rest_fits most gs fit)
direct_fits most at h gs fit = then_holds (Fits most) (DirectFits most) (axiom_group at h (after_annotations gs)) as_axiom (axiom_fits most at h (after_annotations gs) (rest_fits most gs fit)) (λ a is. is)

module _ (cited : Cited) (text : List ℕ) (prefixes : Prefixes) where
  -- what an item gives, by its form
  pub atom_given : (token : Token) → given text prefixes (item.Atom token) ≡ given_atom text prefixes token
  unfolding given
  atom_given token = ap (fold-Item Given (given_step text prefixes)) (sym (rolls-Atom token)) ∙ fold-roll-Item Given (given_step text prefixes) (Item-F.Atom token)

  -- a group without a head
  pub bare_given : (items : List Item) (start end : ℕ) → given text prefixes (item.Group None items start end) ≡ given_bare start
  unfolding given
  bare_given items start end = ap (fold-Item Given (given_step text prefixes)) (sym (rolls-Group None items start end)) ∙ fold-roll-Item Given (given_step text prefixes) (Item-F.Group None items start end)

  -- a group with a head
  pub group_given : (word : Token) (items : List Item) (start end : ℕ) → given text prefixes (item.Group (Some word) items start end) ≡ given_group text word.start (head_of (bytes_of text word)) (map (given text prefixes) items)
  unfolding given
  group_given word items start end = ap (fold-Item Given (given_step text prefixes)) (sym (rolls-Group (Some word) items start end)) ∙ fold-roll-Item Given (given_step text prefixes) (Item-F.Group (Some word) items start end)

  -- an item fits, as a chain and as what is declared
  abbrev ItemFits : Item → Type 0
  ItemFits i = (most : ℕ) → width i ≤ most → IsFit most (given text prefixes i)

  -- one layer of an item
  item_step : (x : Item-F Item) → ItemFits (roll-Item x)
  item_step (Item-F.Atom token) = subst ItemFits (sym (rolls-Atom token)) (λ most wide.
      subst (IsFit most) (sym (atom_given token)) (record {
        chain = any_holds (IsChain most) (property_named token.start (name_of_token text prefixes token)) alone (λ p. (omega arith, omega (arith, wide, some_width cited (item.Atom token))));
        entity = tt;
      }))
  item_step (Item-F.Group None is start end) = subst ItemFits (sym (rolls-Group None is start end)) (λ most wide.
      subst (IsFit most) (sym (bare_given is start end)) (record { chain = tt; entity = tt }))
  item_step (Item-F.Group (Some word) is start end) = subst ItemFits (sym (rolls-Group (Some word) is start end)) (λ most wide.
      let gs = map (given text prefixes) is in
      let h = head_of (bytes_of text word) in
      let few : length gs ≤ most = omega (arith, length-map is (given text prefixes), few_items cited is, inner_width cited (Some word) is start end, wide) in
      subst (IsFit most) (sym (group_given word is start end)) (record { chain = chain_fits most word.start h gs few; entity = entity_fits most word.start h gs }))

  -- each item
  item_fits : (i : Item) → ItemFits i
  item_fits = ind-Item ItemFits (λ x y is. item_step x)

  -- several
  items_fit : (most : ℕ) (is : List Item) → width_of is ≤ most → AreFit most (map (given text prefixes) is)
  items_fit most [] wide = tt
  items_fit most (i ∷ is) wide =
      let parts = width_parts i is in
      (item_fits i most (omega (arith, parts, wide)), items_fit most is (omega (arith, parts, wide)))

  -- and directly in an ontology
  abbrev ItemIsDirect : Item → Type 0
  ItemIsDirect i = (most : ℕ) → width i ≤ most → IfRead (DirectFits most) (given text prefixes i).direct

  -- one layer of an item, directly in an ontology
  direct_step : (x : Item-F Item) → ItemIsDirect (roll-Item x)
  direct_step (Item-F.Atom token) = subst ItemIsDirect (sym (rolls-Atom token)) (λ most wide.
      subst (λ (g : Given). IfRead (DirectFits most) g.direct) (sym (atom_given token)) tt)
  direct_step (Item-F.Group None is start end) = subst ItemIsDirect (sym (rolls-Group None is start end)) (λ most wide.
      subst (λ (g : Given). IfRead (DirectFits most) g.direct) (sym (bare_given is start end)) tt)
  direct_step (Item-F.Group (Some word) is start end) = subst ItemIsDirect (sym (rolls-Group (Some word) is start end)) (λ most wide.
      let inner : width_of is ≤ most = omega (arith, inner_width cited (Some word) is start end, wide) in
      subst (λ (g : Given). IfRead (DirectFits most) g.direct) (sym (group_given word is start end))
      (direct_fits most word.start (head_of (bytes_of text word)) (map (given text prefixes) is) (items_fit most is inner)))

  -- each item
  pub item_is_direct : (i : Item) → ItemIsDirect i
  item_is_direct = ind-Item ItemIsDirect (λ x y is. direct_step x)
