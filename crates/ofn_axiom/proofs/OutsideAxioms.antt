-- A direct item that is read as the fault that something is outside the fragment has it there.
use Rattle.std.proofs.Common.{◌≡◌, ℕ, Bool, true, false, cond, ◌&&◌, List, [], ◌∷◌, ◌++◌, map, refl, ap, sym, subst, ◌∙◌}
use Rattle.std.specs.Prelude.{bytes_eq, Some, Result, Ok, Err}
use Rattle.ofn_lex.specs.declared.token.Token.{Token}
use Rattle.ofn_term.specs.declared.item.Item.{Item}
use Rattle.ofn_term.specs.declared.item.Item.TheVariants as item
use Rattle.ofn_term.specs.Words.{bytes_of}
use Rattle.ofn_heads.specs.declared.head.Head.{Head}
use Rattle.ofn_heads.specs.declared.head.Head.TheVariants as head
use Rattle.ofn_heads.specs.declared.outside.HeadId.{HeadId}
use Rattle.ofn_heads.specs.declared.iri.Named.{Named}
use Rattle.ofn_heads.specs.declared.iri.Named.TheVariants as named
use Rattle.ofn_heads.specs.Heads.{head_of}
use Rattle.text_names.specs.Prefixes.{Prefixes}
use Rattle.ofn_axiom.specs.declared.fault.OffsetFault.{OffsetFault}
use Rattle.ofn_axiom.specs.declared.fault.OffsetFault.TheVariants as fault
use Rattle.ofn_axiom.specs.declared.types.IriExpr.{IriExpr}
use Rattle.ofn_axiom.specs.declared.types.IriAxiom.{IriAxiom}
use Rattle.ofn_axiom.specs.declared.types.Direct.{Direct}
use Rattle.ofn_axiom.specs.declared.types.Direct.TheVariants as direct
use Rattle.ofn_axiom.specs.Steps.{◌>>=◌}
use Rattle.ofn_axiom.specs.Given.{Given, given, misplaced, all_fit, classes_onto, properties_onto, some_classes, some_properties, one_property, property_and_class, class_after, with_class, as_equivalent, as_disjoint, as_equivalent_roles, as_transitive, as_reflexive, as_domain, as_sub_class, above, as_sub_role, role_above, axiom_group, as_axiom, iri_named, one_iri, as_class, as_property, as_nothing, entity_group, declaration, direct_group, after_annotations}
use Rattle.ofn_axiom.specs.StandsFor.{thing, nothing, top_property, bottom_property}
use Rattle.ofn_axiom.specs.Outside.{IsHeadOutside, class_here, class_later, IsAmongClasses, IsInOperands, in_sub_class, in_equivalent, in_disjoint, in_lower_property, in_upper_property, in_equivalent_properties, in_transitive, in_reflexive, in_domain_property, in_domain_class, IsOutside, direct_outside, entity_outside, operand_outside}
use Rattle.ofn_axiom.proofs.Forms.{by_form}
use Rattle.ofn_axiom.proofs.GivenLaws.{atom_gives, bare_gives, group_gives}
use Rattle.ofn_axiom.proofs.StandsBack.{property_stands, class_stands, both_passed}
use Rattle.ofn_axiom.proofs.ChainLaws.{chain_stands}
use Rattle.ofn_axiom.proofs.AxiomBack.{Parted, parted}
use Rattle.ofn_axiom.proofs.OutsideLaws.{outside_at}
use Rattle.ofn_axiom.proofs.OutsideBack.{step_failed, test_outside, head_back, fits_back, all_fit_back, property_back, properties_back, class_back, chain_back}

-- class expressions, then one in which something is outside
classes_back : (text : List ℕ) (prefixes : Prefixes) (is : List Item) (at : ℕ) (outside : HeadId) (done : List IriExpr) → classes_onto done (map (given text prefixes) is) ≡ outside_at at outside → IsAmongClasses text prefixes is at outside
classes_back text prefixes [] at outside done e = cc
classes_back text prefixes (i ∷ is) at outside done e =
    step_failed (given text prefixes i).class (λ k. classes_onto (done ++ k ∷ []) (map (given text prefixes) is)) (fault.Profile at outside) e
    (λ here. class_here i is at outside (class_back text prefixes at outside i here))
    (λ c r later. class_later i is c at outside (class_stands text prefixes i c r) (classes_back text prefixes is at outside (done ++ c ∷ []) later))

-- the operands of a class below another
sub_class_back : (text : List ℕ) (prefixes : Prefixes) (place : ℕ) (is : List Item) (at : ℕ) (outside : HeadId) → axiom_group place head.SubClassOf (map (given text prefixes) is) ≡ outside_at at outside → IsInOperands text prefixes head.SubClassOf is at outside
sub_class_back text prefixes place [] at outside e = cc
sub_class_back text prefixes place (i ∷ []) at outside e = cc
sub_class_back text prefixes place (i ∷ j ∷ []) at outside e =
    let g = given text prefixes i in
    let k = given text prefixes j in
    test_outside (g.fits && k.fits) (g.class >>= above k) place at outside e (λ fit read.
    both_passed g.fits k.fits fit (λ one two.
    in_sub_class i j at outside (fits_back text prefixes i one, (fits_back text prefixes j two, tt))
    (step_failed g.class (above k) (fault.Profile at outside) read
    (λ here. class_here i (j ∷ []) at outside (class_back text prefixes at outside i here))
    (λ c r after. class_later i (j ∷ []) c at outside (class_stands text prefixes i c r)
    (step_failed k.class (as_sub_class c) (fault.Profile at outside) after
    (λ there. class_here j [] at outside (class_back text prefixes at outside j there))
    (λ d s last. cc))))))
sub_class_back text prefixes place (i ∷ j ∷ k ∷ is) at outside e = cc

-- the operands of equivalent classes
equivalent_back : (text : List ℕ) (prefixes : Prefixes) (place : ℕ) (is : List Item) (at : ℕ) (outside : HeadId) → axiom_group place head.EquivalentClasses (map (given text prefixes) is) ≡ outside_at at outside → IsInOperands text prefixes head.EquivalentClasses is at outside
equivalent_back text prefixes place [] at outside e = cc
equivalent_back text prefixes place (i ∷ is) at outside e =
    let gs = map (given text prefixes) (i ∷ is) in
    step_failed (some_classes place gs) as_equivalent (fault.Profile at outside) e
    (λ read. test_outside (all_fit gs) (classes_onto [] gs) place at outside read (λ fit found.
    in_equivalent (i ∷ is) at outside (all_fit_back text prefixes (i ∷ is) fit) (classes_back text prefixes (i ∷ is) at outside [] found)))
    (λ cs r last. cc)

-- the operands of disjoint classes
disjoint_back : (text : List ℕ) (prefixes : Prefixes) (place : ℕ) (is : List Item) (at : ℕ) (outside : HeadId) → axiom_group place head.DisjointClasses (map (given text prefixes) is) ≡ outside_at at outside → IsInOperands text prefixes head.DisjointClasses is at outside
disjoint_back text prefixes place [] at outside e = cc
disjoint_back text prefixes place (i ∷ is) at outside e =
    let gs = map (given text prefixes) (i ∷ is) in
    step_failed (some_classes place gs) as_disjoint (fault.Profile at outside) e
    (λ read. test_outside (all_fit gs) (classes_onto [] gs) place at outside read (λ fit found.
    in_disjoint (i ∷ is) at outside (all_fit_back text prefixes (i ∷ is) fit) (classes_back text prefixes (i ∷ is) at outside [] found)))
    (λ cs r last. cc)

-- the operands of a property below another
sub_property_back : (text : List ℕ) (prefixes : Prefixes) (place : ℕ) (is : List Item) (at : ℕ) (outside : HeadId) → axiom_group place head.SubObjectPropertyOf (map (given text prefixes) is) ≡ outside_at at outside → IsInOperands text prefixes head.SubObjectPropertyOf is at outside
sub_property_back text prefixes place [] at outside e = cc
sub_property_back text prefixes place (i ∷ []) at outside e = cc
sub_property_back text prefixes place (i ∷ j ∷ []) at outside e =
    let g = given text prefixes i in
    let k = given text prefixes j in
    test_outside (g.fits && k.fits) (g.chain >>= role_above k) place at outside e (λ fit read.
    both_passed g.fits k.fits fit (λ one two.
    step_failed g.chain (role_above k) (fault.Profile at outside) read
    (λ here. in_lower_property i j at outside (fits_back text prefixes j two) (chain_back text prefixes at outside i here))
    (λ chain r after. step_failed k.property (as_sub_role chain) (fault.Profile at outside) after
    (λ there. in_upper_property i j chain at outside (chain_stands text prefixes i chain r) (property_back text prefixes at outside j there))
    (λ s q last. cc))))
sub_property_back text prefixes place (i ∷ j ∷ k ∷ is) at outside e = cc

-- the operands of equivalent properties
same_back : (text : List ℕ) (prefixes : Prefixes) (place : ℕ) (is : List Item) (at : ℕ) (outside : HeadId) → axiom_group place head.EquivalentObjectProperties (map (given text prefixes) is) ≡ outside_at at outside → IsInOperands text prefixes head.EquivalentObjectProperties is at outside
same_back text prefixes place [] at outside e = cc
same_back text prefixes place (i ∷ is) at outside e =
    let gs = map (given text prefixes) (i ∷ is) in
    step_failed (some_properties place gs) as_equivalent_roles (fault.Profile at outside) e
    (λ read. test_outside (all_fit gs) (properties_onto [] gs) place at outside read (λ fit found.
    in_equivalent_properties (i ∷ is) at outside (all_fit_back text prefixes (i ∷ is) fit) (properties_back text prefixes (i ∷ is) at outside [] found)))
    (λ rs r last. cc)

-- the operand of a transitive property
transitive_back : (text : List ℕ) (prefixes : Prefixes) (place : ℕ) (is : List Item) (at : ℕ) (outside : HeadId) → axiom_group place head.TransitiveObjectProperty (map (given text prefixes) is) ≡ outside_at at outside → IsInOperands text prefixes head.TransitiveObjectProperty is at outside
transitive_back text prefixes place [] at outside e = cc
transitive_back text prefixes place (i ∷ []) at outside e =
    let g = given text prefixes i in
    step_failed (one_property place (g ∷ [])) as_transitive (fault.Profile at outside) e
    (λ read. test_outside g.fits g.property place at outside read (λ fit found. in_transitive i at outside (property_back text prefixes at outside i found)))
    (λ r s last. cc)
transitive_back text prefixes place (i ∷ j ∷ is) at outside e = cc

-- the operand of a reflexive property
reflexive_back : (text : List ℕ) (prefixes : Prefixes) (place : ℕ) (is : List Item) (at : ℕ) (outside : HeadId) → axiom_group place head.ReflexiveObjectProperty (map (given text prefixes) is) ≡ outside_at at outside → IsInOperands text prefixes head.ReflexiveObjectProperty is at outside
reflexive_back text prefixes place [] at outside e = cc
reflexive_back text prefixes place (i ∷ []) at outside e =
    let g = given text prefixes i in
    step_failed (one_property place (g ∷ [])) as_reflexive (fault.Profile at outside) e
    (λ read. test_outside g.fits g.property place at outside read (λ fit found. in_reflexive i at outside (property_back text prefixes at outside i found)))
    (λ r s last. cc)
reflexive_back text prefixes place (i ∷ j ∷ is) at outside e = cc

-- the operands of a domain
domain_back : (text : List ℕ) (prefixes : Prefixes) (place : ℕ) (is : List Item) (at : ℕ) (outside : HeadId) → axiom_group place head.ObjectPropertyDomain (map (given text prefixes) is) ≡ outside_at at outside → IsInOperands text prefixes head.ObjectPropertyDomain is at outside
domain_back text prefixes place [] at outside e = cc
domain_back text prefixes place (i ∷ []) at outside e = cc
domain_back text prefixes place (i ∷ j ∷ []) at outside e =
    let g = given text prefixes i in
    let k = given text prefixes j in
    step_failed (property_and_class place (g ∷ k ∷ [])) as_domain (fault.Profile at outside) e
    (λ read. test_outside (g.fits && k.fits) (g.property >>= class_after k) place at outside read (λ fit found.
    both_passed g.fits k.fits fit (λ one two.
    step_failed g.property (class_after k) (fault.Profile at outside) found
    (λ here. in_domain_property i j at outside (fits_back text prefixes j two) (property_back text prefixes at outside i here))
    (λ iri r after. step_failed k.class (with_class iri) (fault.Profile at outside) after
    (λ there. in_domain_class i j iri at outside (fits_back text prefixes j two) (property_stands text prefixes i iri r) (class_back text prefixes at outside j there))
    (λ c s last. cc)))))
    (λ both r last. cc)
domain_back text prefixes place (i ∷ j ∷ k ∷ is) at outside e = cc

-- a fault of an axiom
abbrev axiom_as : OffsetFault → Result IriAxiom OffsetFault
axiom_as f = Err f

-- operands in which something is outside, or a head that is misplaced
operands_back : {P : Type 0} (text : List ℕ) (prefixes : Prefixes) (place : ℕ) (h : Head) (is : List Item) (at : ℕ) (outside : HeadId) → axiom_group place h (map (given text prefixes) is) ≡ outside_at at outside → (IsInOperands text prefixes h is at outside → P) → (misplaced place h ≡ fault.Profile at outside → P) → P
operands_back text prefixes place head.SubClassOf is at outside e inside other = inside (sub_class_back text prefixes place is at outside e)
operands_back text prefixes place head.EquivalentClasses is at outside e inside other = inside (equivalent_back text prefixes place is at outside e)
operands_back text prefixes place head.DisjointClasses is at outside e inside other = inside (disjoint_back text prefixes place is at outside e)
operands_back text prefixes place head.SubObjectPropertyOf is at outside e inside other = inside (sub_property_back text prefixes place is at outside e)
operands_back text prefixes place head.EquivalentObjectProperties is at outside e inside other = inside (same_back text prefixes place is at outside e)
operands_back text prefixes place head.TransitiveObjectProperty is at outside e inside other = inside (transitive_back text prefixes place is at outside e)
operands_back text prefixes place head.ReflexiveObjectProperty is at outside e inside other = inside (reflexive_back text prefixes place is at outside e)
operands_back text prefixes place head.ObjectPropertyDomain is at outside e inside other = inside (domain_back text prefixes place is at outside e)
operands_back text prefixes place h is at outside e inside other = let read : axiom_as (misplaced place h) ≡ axiom_as (fault.Profile at outside) = e in let same : misplaced place h ≡ fault.Profile at outside = cc in other same

-- the one IRI of an entity is never outside
no_iri : (place : ℕ) (gs : List Given) (at : ℕ) (outside : HeadId) → one_iri place gs ≡ outside_at at outside → ⊥
no_iri place [] at outside e = cc
no_iri place (g ∷ []) at outside e = by g.name e
  where
    by : (n : Named) → iri_named place g.at n ≡ outside_at at outside → ⊥
    by (named.Iri iri) f = cc
    by named.Unknown f = cc
    by named.NoIri f = cc
no_iri place (g ∷ h ∷ gs) at outside e = cc

-- nor is what is declared of it
no_choice : (b c : Bool) (x y z : Direct) (at : ℕ) (outside : HeadId) → cond {A = Result Direct OffsetFault} b (Ok x) (cond c (Ok y) (Ok z)) ≡ outside_at at outside → ⊥
no_choice true c x y z at outside e = cc
no_choice false true x y z at outside e = cc
no_choice false false x y z at outside e = cc

-- so no entity with one IRI is outside
no_entity : (place : ℕ) (gs : List Given) (f : List ℕ → Result Direct OffsetFault) (at : ℕ) (outside : HeadId) → (one_iri place gs >>= f) ≡ outside_at at outside → ((iri : List ℕ) → f iri ≡ outside_at at outside → ⊥) → ⊥
no_entity place gs f at outside e never = step_failed (one_iri place gs) f (fault.Profile at outside) e (λ read. no_iri place gs at outside read) (λ iri r last. never iri last)

-- a fault of a direct item
abbrev direct_as : OffsetFault → Result Direct OffsetFault
direct_as f = Err f

-- a group in the place of an entity
entity_back : (text : List ℕ) (word : Token) (is : List Item) (gs : List Given) (start end at : ℕ) (outside : HeadId) → entity_group word.start (head_of (bytes_of text word)) gs ≡ outside_at at outside → IsHeadOutside text (item.Group (Some word) is start end) at outside
entity_back text word is gs start end at outside = by (head_of (bytes_of text word)) refl
  where
    by : (k : Head) → head_of (bytes_of text word) ≡ k → entity_group word.start k gs ≡ outside_at at outside → IsHeadOutside text (item.Group (Some word) is start end) at outside
    by head.Class h e = absurd (no_entity word.start gs as_class at outside e (λ iri f. no_choice (bytes_eq iri thing) (bytes_eq iri nothing) direct.Nothing direct.Nothing (direct.Class iri) at outside f))
    by head.ObjectProperty h e = absurd (no_entity word.start gs as_property at outside e (λ iri f. no_choice (bytes_eq iri top_property) (bytes_eq iri bottom_property) direct.Nothing direct.Nothing (direct.Property iri) at outside f))
    by head.DataProperty h e = absurd (no_entity word.start gs as_nothing at outside e (λ iri f. cc))
    by head.AnnotationProperty h e = absurd (no_entity word.start gs as_nothing at outside e (λ iri f. cc))
    by head.Datatype h e = absurd (no_entity word.start gs as_nothing at outside e (λ iri f. cc))
    by head.NamedIndividual h e = absurd (no_entity word.start gs as_nothing at outside e (λ iri f. cc))
    by k h e = let read : direct_as (misplaced word.start k) ≡ direct_as (fault.Profile at outside) = e in let same : misplaced word.start k ≡ fault.Profile at outside = cc in head_back text word is start end at outside k h same

-- an item in the place of an entity
entity_item_back : (text : List ℕ) (prefixes : Prefixes) (at : ℕ) (outside : HeadId) (i : Item) → (given text prefixes i).entity ≡ outside_at at outside → IsHeadOutside text i at outside
entity_item_back text prefixes at outside = by_form (λ i. (given text prefixes i).entity ≡ outside_at at outside → IsHeadOutside text i at outside)
    (λ token. λ e. let bad : Err (fault.Head token.start) ≡ outside_at {A = Direct} at outside = sym (ap (λ (g : Given). g.entity) (atom_gives text prefixes token)) ∙ e in cc)
    (λ is start end. λ e. let bad : Err (fault.Head start) ≡ outside_at {A = Direct} at outside = sym (ap (λ (g : Given). g.entity) (bare_gives text prefixes is start end)) ∙ e in cc)
    (λ word is start end. λ e. entity_back text word is (map (given text prefixes) is) start end at outside (sym (ap (λ (g : Given). g.entity) (group_gives text prefixes word is start end)) ∙ e))

-- a group that is a direct item
direct_group_back : (text : List ℕ) (prefixes : Prefixes) (word : Token) (is : List Item) (start end at : ℕ) (outside : HeadId) → direct_group word.start (head_of (bytes_of text word)) (map (given text prefixes) is) ≡ outside_at at outside → IsOutside text prefixes (item.Group (Some word) is start end) at outside
direct_group_back text prefixes word is start end at outside = by (head_of (bytes_of text word)) refl
  where
    declares : (p : Parted text prefixes is) (operands : List Item) → p.operands ≡ operands → head_of (bytes_of text word) ≡ head.Declaration → declaration word.start (map (given text prefixes) operands) ≡ outside_at at outside → IsOutside text prefixes (item.Group (Some word) is start end) at outside
    declares p [] same h e = cc
    declares p (i ∷ []) same h e =
        test_outside (given text prefixes i).headed (given text prefixes i).entity word.start at outside e (λ headed found.
        subst (λ (js : List Item). IsOutside text prefixes (item.Group (Some word) js start end) at outside) (sym (p.whole ∙ ap (λ (l : List Item). p.annotations ++ l) same))
        (entity_outside word p.annotations i start end at outside h p.are (entity_item_back text prefixes at outside i found)))
    declares p (i ∷ j ∷ js) same h e = cc

    states : (p : Parted text prefixes is) (k : Head) → head_of (bytes_of text word) ≡ k → (axiom_group word.start k (after_annotations (map (given text prefixes) is)) >>= as_axiom) ≡ outside_at at outside → IsOutside text prefixes (item.Group (Some word) is start end) at outside
    states p k h e =
        step_failed (axiom_group word.start k (after_annotations (map (given text prefixes) is))) as_axiom (fault.Profile at outside) e
        (λ read. operands_back text prefixes word.start k p.operands at outside (ap (λ (gs : List Given). axiom_group word.start k gs) (sym p.left) ∙ read)
        (λ inside. subst (λ (js : List Item). IsOutside text prefixes (item.Group (Some word) js start end) at outside) (sym p.whole) (operand_outside word k p.annotations p.operands start end at outside h p.are inside))
        (λ other. direct_outside (item.Group (Some word) is start end) at outside (head_back text word is start end at outside k h other)))
        (λ a r last. cc)

    by : (k : Head) → head_of (bytes_of text word) ≡ k → direct_group word.start k (map (given text prefixes) is) ≡ outside_at at outside → IsOutside text prefixes (item.Group (Some word) is start end) at outside
    by head.Annotation h e = cc
    by head.AnnotationAssertion h e = cc
    by head.SubAnnotationPropertyOf h e = cc
    by head.AnnotationPropertyDomain h e = cc
    by head.AnnotationPropertyRange h e = cc
    by head.Declaration h e = let p = parted text prefixes is in declares p p.operands refl h (ap (declaration word.start) (sym p.left) ∙ e)
    by k h e = states (parted text prefixes is) k h e

-- a direct item of which something is outside
pub outside_stands : (text : List ℕ) (prefixes : Prefixes) (i : Item) (at : ℕ) (outside : HeadId) → (given text prefixes i).direct ≡ Err (fault.Profile at outside) → IsOutside text prefixes i at outside
outside_stands text prefixes i at outside = by_form (λ i. (given text prefixes i).direct ≡ outside_at at outside → IsOutside text prefixes i at outside)
    (λ token. λ e. let bad : Err (fault.Head token.start) ≡ outside_at {A = Direct} at outside = sym (ap (λ (g : Given). g.direct) (atom_gives text prefixes token)) ∙ e in cc)
    (λ is start end. λ e. let bad : Err (fault.Head start) ≡ outside_at {A = Direct} at outside = sym (ap (λ (g : Given). g.direct) (bare_gives text prefixes is start end)) ∙ e in cc)
    (λ word is start end. λ e. direct_group_back text prefixes word is start end at outside (sym (ap (λ (g : Given). g.direct) (group_gives text prefixes word is start end)) ∙ e))
    i
