-- What is read as an axiom states it.
use Rattle.std.proofs.Common.{◌≡◌, ℕ, Bool, true, false, cond, ◌&&◌, List, [], ◌∷◌, ◌++◌, map, refl, ap, sym, subst, ◌∙◌, append-nil, append_assoc}
use Rattle.std.specs.Prelude.{bytes_eq, Some, None, Result, Ok, Err}
use Rattle.ofn_lex.specs.declared.token.Token.{Token}
use Rattle.ofn_term.specs.declared.item.Item.{Item, roll-Item}
use Rattle.ofn_term.specs.declared.item.Item.TheOpen.{Item-F}
use Rattle.ofn_term.specs.declared.item.Item.TheFolds.{ind-Item}
use Rattle.ofn_term.specs.declared.item.Item.TheVariants as item
use Rattle.ofn_term.specs.declared.item.Item.TheVariants.{rolls-Atom, rolls-Group}
use Rattle.ofn_term.specs.Words.{bytes_of}
use Rattle.ofn_heads.specs.declared.head.Head.{Head}
use Rattle.ofn_heads.specs.declared.head.Head.TheVariants as head
use Rattle.ofn_heads.specs.Heads.{head_of}
use Rattle.text_names.specs.Prefixes.{Prefixes}
use Rattle.ofn_axiom.specs.declared.fault.OffsetFault.{OffsetFault}
use Rattle.ofn_axiom.specs.declared.fault.OffsetFault.TheVariants as fault
use Rattle.ofn_axiom.specs.declared.types.IriExpr.{IriExpr}
use Rattle.ofn_axiom.specs.declared.types.IriAxiom.{IriAxiom}
use Rattle.ofn_axiom.specs.declared.types.IriAxiom.TheVariants as ax
use Rattle.ofn_axiom.specs.declared.types.Direct.TheVariants as direct
use Rattle.ofn_axiom.specs.Steps.{◌>>=◌}
use Rattle.ofn_axiom.specs.Given.{Given, given, all_fit, classes_onto, some_classes, some_properties, one_property, property_and_class, sub_class, sub_property, as_equivalent, as_disjoint, as_equivalent_roles, as_transitive, as_reflexive, as_domain, as_sub_class, above, as_sub_role, role_above, class_after, with_class, axiom_group, one_iri, as_class, as_property, as_nothing, entity_group, declaration, direct_group, is_annotation, after_annotations, as_axiom}
use Rattle.ofn_axiom.specs.StandsFor.{thing, nothing, top_property, bottom_property, IsHead, IsProperty, AreProperties, IsClass, AreClasses, none, one_more, IsChain, IsAxiomOf, IsAnnotation, annotation, AreAnnotations, IsAxiom, stated}
use Rattle.ofn_axiom.specs.StandsFor as stands
use Rattle.ofn_axiom.proofs.GivenLaws.{atom_gives, bare_gives, group_gives}
use Rattle.ofn_axiom.proofs.Gave.{step_gave, test_passed}
use Rattle.ofn_axiom.proofs.StandsBack.{property_stands, class_stands}
use Rattle.ofn_axiom.proofs.ChainLaws.{some_stand, chain_stands}

-- what several items are read as, after those that are read
record ClassesRest (text : List ℕ) (prefixes : Prefixes) (is : List Item) (done cs : List IriExpr) : Type 0 where
  rest : List IriExpr
  whole : cs ≡ done ++ rest
  each : AreClasses text prefixes is rest

items_stand : (text : List ℕ) (prefixes : Prefixes) (is : List Item) (done cs : List IriExpr) → classes_onto done (map (given text prefixes) is) ≡ Ok cs → ClassesRest text prefixes is done cs
items_stand text prefixes [] done cs e = let same : done ≡ cs = cc in record { rest = []; whole = sym same ∙ sym (append-nil done); each = none }
items_stand text prefixes (i ∷ is) done cs e =
    step_gave (given text prefixes i).class (λ k. classes_onto (done ++ k ∷ []) (map (given text prefixes) is)) cs e (λ c r f.
    let later = items_stand text prefixes is (done ++ c ∷ []) cs f in
    record { rest = c ∷ later.rest; whole = later.whole ∙ append_assoc done (c ∷ []) later.rest; each = one_more i is c later.rest (class_stands text prefixes i c r) later.each })

-- one or more that are read stand for class expressions
some_classes_stand : (text : List ℕ) (prefixes : Prefixes) (at : ℕ) (i : Item) (is : List Item) (cs : List IriExpr) → cond (all_fit (map (given text prefixes) (i ∷ is))) (classes_onto [] (map (given text prefixes) (i ∷ is))) (Err (fault.Shape at)) ≡ Ok cs → AreClasses text prefixes (i ∷ is) cs
some_classes_stand text prefixes at i is cs e =
    test_passed (all_fit (map (given text prefixes) (i ∷ is))) (classes_onto [] (map (given text prefixes) (i ∷ is))) (fault.Shape at) cs e (λ fit read.
    let found = items_stand text prefixes (i ∷ is) [] cs read in
    subst (λ (l : List IriExpr). AreClasses text prefixes (i ∷ is) l) (sym found.whole) found.each)

-- the operands of each head
sub_class_stands : (text : List ℕ) (prefixes : Prefixes) (at : ℕ) (is : List Item) (a : IriAxiom) → sub_class at (map (given text prefixes) is) ≡ Ok a → IsAxiomOf text prefixes head.SubClassOf is a
sub_class_stands text prefixes at [] a e = cc
sub_class_stands text prefixes at (i ∷ []) a e = cc
sub_class_stands text prefixes at (i ∷ j ∷ []) a e =
    test_passed ((given text prefixes i).fits && (given text prefixes j).fits) ((given text prefixes i).class >>= above (given text prefixes j)) (fault.Shape at) a e (λ fit read.
    step_gave (given text prefixes i).class (above (given text prefixes j)) a read (λ c r f.
    step_gave (given text prefixes j).class (as_sub_class c) a f (λ d s g.
    let same : ax.SubClass c d ≡ a = cc in
    subst (λ (k : IriAxiom). IsAxiomOf text prefixes head.SubClassOf (i ∷ j ∷ []) k) same (stands.sub_class i j c d (class_stands text prefixes i c r) (class_stands text prefixes j d s)))))
sub_class_stands text prefixes at (i ∷ j ∷ k ∷ is) a e = cc

equivalent_stands : (text : List ℕ) (prefixes : Prefixes) (at : ℕ) (is : List Item) (a : IriAxiom) → (some_classes at (map (given text prefixes) is) >>= as_equivalent) ≡ Ok a → IsAxiomOf text prefixes head.EquivalentClasses is a
equivalent_stands text prefixes at [] a e = cc
equivalent_stands text prefixes at (i ∷ is) a e =
    step_gave (some_classes at (map (given text prefixes) (i ∷ is))) as_equivalent a e (λ cs r f.
    let same : ax.Equivalent cs ≡ a = cc in
    subst (λ (k : IriAxiom). IsAxiomOf text prefixes head.EquivalentClasses (i ∷ is) k) same (stands.equivalent i is cs (some_classes_stand text prefixes at i is cs r)))

disjoint_stands : (text : List ℕ) (prefixes : Prefixes) (at : ℕ) (is : List Item) (a : IriAxiom) → (some_classes at (map (given text prefixes) is) >>= as_disjoint) ≡ Ok a → IsAxiomOf text prefixes head.DisjointClasses is a
disjoint_stands text prefixes at [] a e = cc
disjoint_stands text prefixes at (i ∷ is) a e =
    step_gave (some_classes at (map (given text prefixes) (i ∷ is))) as_disjoint a e (λ cs r f.
    let same : ax.Disjoint cs ≡ a = cc in
    subst (λ (k : IriAxiom). IsAxiomOf text prefixes head.DisjointClasses (i ∷ is) k) same (stands.disjoint i is cs (some_classes_stand text prefixes at i is cs r)))

sub_property_stands : (text : List ℕ) (prefixes : Prefixes) (at : ℕ) (is : List Item) (a : IriAxiom) → sub_property at (map (given text prefixes) is) ≡ Ok a → IsAxiomOf text prefixes head.SubObjectPropertyOf is a
sub_property_stands text prefixes at [] a e = cc
sub_property_stands text prefixes at (i ∷ []) a e = cc
sub_property_stands text prefixes at (i ∷ j ∷ []) a e =
    test_passed ((given text prefixes i).fits && (given text prefixes j).fits) ((given text prefixes i).chain >>= role_above (given text prefixes j)) (fault.Shape at) a e (λ fit read.
    step_gave (given text prefixes i).chain (role_above (given text prefixes j)) a read (λ chain r f.
    step_gave (given text prefixes j).property (as_sub_role chain) a f (λ s q g.
    let same : ax.SubRole chain s ≡ a = cc in
    subst (λ (k : IriAxiom). IsAxiomOf text prefixes head.SubObjectPropertyOf (i ∷ j ∷ []) k) same (stands.sub_property i j chain s (chain_stands text prefixes i chain r) (property_stands text prefixes j s q)))))
sub_property_stands text prefixes at (i ∷ j ∷ k ∷ is) a e = cc

same_stands : (text : List ℕ) (prefixes : Prefixes) (at : ℕ) (is : List Item) (a : IriAxiom) → (some_properties at (map (given text prefixes) is) >>= as_equivalent_roles) ≡ Ok a → IsAxiomOf text prefixes head.EquivalentObjectProperties is a
same_stands text prefixes at [] a e = cc
same_stands text prefixes at (i ∷ is) a e =
    step_gave (some_properties at (map (given text prefixes) (i ∷ is))) as_equivalent_roles a e (λ rs r f.
    let same : ax.EquivalentRoles rs ≡ a = cc in
    subst (λ (k : IriAxiom). IsAxiomOf text prefixes head.EquivalentObjectProperties (i ∷ is) k) same (stands.equivalent_properties i is rs (some_stand text prefixes at i is rs r)))

transitive_stands : (text : List ℕ) (prefixes : Prefixes) (at : ℕ) (is : List Item) (a : IriAxiom) → (one_property at (map (given text prefixes) is) >>= as_transitive) ≡ Ok a → IsAxiomOf text prefixes head.TransitiveObjectProperty is a
transitive_stands text prefixes at [] a e = cc
transitive_stands text prefixes at (i ∷ []) a e =
    step_gave (one_property at (given text prefixes i ∷ [])) as_transitive a e (λ r read f.
    test_passed (given text prefixes i).fits (given text prefixes i).property (fault.Shape at) r read (λ fit found.
    let same : ax.Transitive r ≡ a = cc in
    subst (λ (k : IriAxiom). IsAxiomOf text prefixes head.TransitiveObjectProperty (i ∷ []) k) same (stands.transitive i r (property_stands text prefixes i r found))))
transitive_stands text prefixes at (i ∷ j ∷ is) a e = cc

reflexive_stands : (text : List ℕ) (prefixes : Prefixes) (at : ℕ) (is : List Item) (a : IriAxiom) → (one_property at (map (given text prefixes) is) >>= as_reflexive) ≡ Ok a → IsAxiomOf text prefixes head.ReflexiveObjectProperty is a
reflexive_stands text prefixes at [] a e = cc
reflexive_stands text prefixes at (i ∷ []) a e =
    step_gave (one_property at (given text prefixes i ∷ [])) as_reflexive a e (λ r read f.
    test_passed (given text prefixes i).fits (given text prefixes i).property (fault.Shape at) r read (λ fit found.
    let same : ax.Reflexive r ≡ a = cc in
    subst (λ (k : IriAxiom). IsAxiomOf text prefixes head.ReflexiveObjectProperty (i ∷ []) k) same (stands.reflexive i r (property_stands text prefixes i r found))))
reflexive_stands text prefixes at (i ∷ j ∷ is) a e = cc

domain_stands : (text : List ℕ) (prefixes : Prefixes) (at : ℕ) (is : List Item) (a : IriAxiom) → (property_and_class at (map (given text prefixes) is) >>= as_domain) ≡ Ok a → IsAxiomOf text prefixes head.ObjectPropertyDomain is a
domain_stands text prefixes at [] a e = cc
domain_stands text prefixes at (i ∷ []) a e = cc
domain_stands text prefixes at (i ∷ j ∷ []) a e =
    step_gave (property_and_class at (given text prefixes i ∷ given text prefixes j ∷ [])) as_domain a e (λ both read f.
    test_passed ((given text prefixes i).fits && (given text prefixes j).fits) ((given text prefixes i).property >>= class_after (given text prefixes j)) (fault.Shape at) both read (λ fit found.
    step_gave (given text prefixes i).property (class_after (given text prefixes j)) both found (λ r q g.
    step_gave (given text prefixes j).class (with_class r) both g (λ c k last.
    let pair : (r, c) ≡ both = cc in
    let same : ax.Domain both.0 both.1 ≡ a = cc in
    subst (λ (x : IriAxiom). IsAxiomOf text prefixes head.ObjectPropertyDomain (i ∷ j ∷ []) x) (ap (λ (b : List ℕ × IriExpr). ax.Domain b.0 b.1) pair ∙ same)
    (stands.domain i j r c (property_stands text prefixes i r q) (class_stands text prefixes j c k))))))
domain_stands text prefixes at (i ∷ j ∷ k ∷ is) a e = cc

-- operands that are read as an axiom state it
operands_stand : (text : List ℕ) (prefixes : Prefixes) (at : ℕ) (h : Head) (is : List Item) (a : IriAxiom) → axiom_group at h (map (given text prefixes) is) ≡ Ok a → IsAxiomOf text prefixes h is a
operands_stand text prefixes at head.SubClassOf is a e = sub_class_stands text prefixes at is a e
operands_stand text prefixes at head.EquivalentClasses is a e = equivalent_stands text prefixes at is a e
operands_stand text prefixes at head.DisjointClasses is a e = disjoint_stands text prefixes at is a e
operands_stand text prefixes at head.SubObjectPropertyOf is a e = sub_property_stands text prefixes at is a e
operands_stand text prefixes at head.EquivalentObjectProperties is a e = same_stands text prefixes at is a e
operands_stand text prefixes at head.TransitiveObjectProperty is a e = transitive_stands text prefixes at is a e
operands_stand text prefixes at head.ReflexiveObjectProperty is a e = reflexive_stands text prefixes at is a e
operands_stand text prefixes at head.ObjectPropertyDomain is a e = domain_stands text prefixes at is a e
operands_stand text prefixes at _ is a e = cc

-- a group with this head is an annotation
annotation_group : (text : List ℕ) (word : Token) (is : List Item) (start end : ℕ) → is_annotation (head_of (bytes_of text word)) ≡ true → IsAnnotation text (item.Group (Some word) is start end)
annotation_group text word is start end = by (head_of (bytes_of text word)) refl
  where
    by : (k : Head) → head_of (bytes_of text word) ≡ k → is_annotation k ≡ true → IsAnnotation text (item.Group (Some word) is start end)
    by head.Annotation h e = annotation word is start end h
    by _ h e = cc

abbrev MayAnnotate : List ℕ → Prefixes → Item → Type 0
MayAnnotate text prefixes i = is_annotation (given text prefixes i).head ≡ true → IsAnnotation text i

annotation_step : (text : List ℕ) (prefixes : Prefixes) (x : Item-F Item) → MayAnnotate text prefixes (roll-Item x)
annotation_step text prefixes (Item-F.Atom token) = subst (MayAnnotate text prefixes) (sym (rolls-Atom token)) (λ e.
    let bad : false ≡ true = sym (ap (λ (g : Given). is_annotation g.head) (atom_gives text prefixes token)) ∙ e in cc)
annotation_step text prefixes (Item-F.Group None is start end) = subst (MayAnnotate text prefixes) (sym (rolls-Group None is start end)) (λ e.
    let bad : false ≡ true = sym (ap (λ (g : Given). is_annotation g.head) (bare_gives text prefixes is start end)) ∙ e in cc)
annotation_step text prefixes (Item-F.Group (Some word) is start end) = subst (MayAnnotate text prefixes) (sym (rolls-Group (Some word) is start end)) (λ e.
    annotation_group text word is start end (sym (ap (λ (g : Given). is_annotation g.head) (group_gives text prefixes word is start end)) ∙ e))

annotation_stands : (text : List ℕ) (prefixes : Prefixes) (i : Item) → MayAnnotate text prefixes i
annotation_stands text prefixes = ind-Item (MayAnnotate text prefixes) (λ x y is. annotation_step text prefixes x)

-- items are annotations, and then what is left after them
pub record Parted (text : List ℕ) (prefixes : Prefixes) (is : List Item) : Type 0 where
  pub annotations : List Item
  pub operands : List Item
  pub whole : is ≡ annotations ++ operands
  pub are : AreAnnotations text annotations
  pub left : after_annotations (map (given text prefixes) is) ≡ map (given text prefixes) operands

pub parted : (text : List ℕ) (prefixes : Prefixes) (is : List Item) → Parted text prefixes is
parted text prefixes [] = record { annotations = []; operands = []; whole = refl; are = tt; left = refl }
parted text prefixes (i ∷ is) = by (is_annotation (given text prefixes i).head) refl (parted text prefixes is)
  where
    by : (b : Bool) → is_annotation (given text prefixes i).head ≡ b → Parted text prefixes is → Parted text prefixes (i ∷ is)
    by true e later = record {
      annotations = i ∷ later.annotations;
      operands = later.operands;
      whole = ap (λ (l : List Item). i ∷ l) later.whole;
      are = (annotation_stands text prefixes i e, later.are);
      left = ap (λ (b : Bool). cond b (after_annotations (map (given text prefixes) is)) (map (given text prefixes) (i ∷ is))) e ∙ later.left;
    }
    by false e later = record {
      annotations = [];
      operands = i ∷ is;
      whole = refl;
      are = tt;
      left = ap (λ (b : Bool). cond b (after_annotations (map (given text prefixes) is)) (map (given text prefixes) (i ∷ is))) e;
    }

-- a group that is read as an axiom, once the annotations are skipped
stated_group : (text : List ℕ) (prefixes : Prefixes) (word : Token) (h : Head) (is : List Item) (start end : ℕ) (a : IriAxiom) → head_of (bytes_of text word) ≡ h → (axiom_group word.start h (after_annotations (map (given text prefixes) is)) >>= as_axiom) ≡ Ok (direct.Axiom a) → IsAxiom text prefixes (item.Group (Some word) is start end) a
stated_group text prefixes word h is start end a is_head e =
    let p = parted text prefixes is in
    step_gave (axiom_group word.start h (after_annotations (map (given text prefixes) is))) as_axiom (direct.Axiom a) e (λ found r f.
    let same : found ≡ a = cc in
    let read : axiom_group word.start h (map (given text prefixes) p.operands) ≡ Ok a = ap (λ (gs : List Given). axiom_group word.start h gs) (sym p.left) ∙ r ∙ ap (λ (k : IriAxiom). Ok k) same in
    subst (λ (js : List Item). IsAxiom text prefixes (item.Group (Some word) js start end) a) (sym p.whole)
    (stated word h p.annotations p.operands start end a is_head p.are (operands_stand text prefixes word.start h p.operands a read)))

-- one of three
three : {A P : Type 0} (b c : Bool) (x y : Result A OffsetFault) (z : Result A OffsetFault) → cond b x (cond c x y) ≡ z → (x ≡ z → P) → (y ≡ z → P) → P
three true c x y z e first second = first e
three false true x y z e first second = first e
three false false x y z e first second = second e

-- no declared name is an axiom
entity_group_no_axiom : (at : ℕ) (h : Head) (gs : List Given) (a : IriAxiom) → entity_group at h gs ≡ Ok (direct.Axiom a) → ⊥
entity_group_no_axiom at head.Class gs a e = step_gave (one_iri at gs) as_class (direct.Axiom a) e (λ iri r f. three (bytes_eq iri thing) (bytes_eq iri nothing) (Ok direct.Nothing) (Ok (direct.Class iri)) (Ok (direct.Axiom a)) f (λ g. cc) (λ g. cc))
entity_group_no_axiom at head.ObjectProperty gs a e = step_gave (one_iri at gs) as_property (direct.Axiom a) e (λ iri r f. three (bytes_eq iri top_property) (bytes_eq iri bottom_property) (Ok direct.Nothing) (Ok (direct.Property iri)) (Ok (direct.Axiom a)) f (λ g. cc) (λ g. cc))
entity_group_no_axiom at head.DataProperty gs a e = step_gave (one_iri at gs) as_nothing (direct.Axiom a) e (λ iri r f. cc)
entity_group_no_axiom at head.AnnotationProperty gs a e = step_gave (one_iri at gs) as_nothing (direct.Axiom a) e (λ iri r f. cc)
entity_group_no_axiom at head.Datatype gs a e = step_gave (one_iri at gs) as_nothing (direct.Axiom a) e (λ iri r f. cc)
entity_group_no_axiom at head.NamedIndividual gs a e = step_gave (one_iri at gs) as_nothing (direct.Axiom a) e (λ iri r f. cc)
entity_group_no_axiom at _ gs a e = cc

abbrev NoAxiom : List ℕ → Prefixes → Item → Type 0
NoAxiom text prefixes i = (a : IriAxiom) → (given text prefixes i).entity ≡ Ok (direct.Axiom a) → ⊥

entity_step : (text : List ℕ) (prefixes : Prefixes) (x : Item-F Item) → NoAxiom text prefixes (roll-Item x)
entity_step text prefixes (Item-F.Atom token) = subst (NoAxiom text prefixes) (sym (rolls-Atom token)) (λ a e.
    let bad : Err (fault.Head token.start) ≡ Ok (direct.Axiom a) = sym (ap (λ (g : Given). g.entity) (atom_gives text prefixes token)) ∙ e in cc)
entity_step text prefixes (Item-F.Group None is start end) = subst (NoAxiom text prefixes) (sym (rolls-Group None is start end)) (λ a e.
    let bad : Err (fault.Head start) ≡ Ok (direct.Axiom a) = sym (ap (λ (g : Given). g.entity) (bare_gives text prefixes is start end)) ∙ e in cc)
entity_step text prefixes (Item-F.Group (Some word) is start end) = subst (NoAxiom text prefixes) (sym (rolls-Group (Some word) is start end)) (λ a e.
    entity_group_no_axiom word.start (head_of (bytes_of text word)) (map (given text prefixes) is) a (sym (ap (λ (g : Given). g.entity) (group_gives text prefixes word is start end)) ∙ e))

declaration_no_axiom : (text : List ℕ) (prefixes : Prefixes) (at : ℕ) (is : List Item) (a : IriAxiom) → declaration at (map (given text prefixes) is) ≡ Ok (direct.Axiom a) → ⊥
declaration_no_axiom text prefixes at [] a e = cc
declaration_no_axiom text prefixes at (i ∷ []) a e =
    test_passed (given text prefixes i).headed (given text prefixes i).entity (fault.Shape at) (direct.Axiom a) e (λ headed read.
    ind-Item (NoAxiom text prefixes) (λ x y is. entity_step text prefixes x) i a read)
declaration_no_axiom text prefixes at (i ∷ j ∷ is) a e = cc

-- a group that is read as an axiom states it
direct_group_stands : (text : List ℕ) (prefixes : Prefixes) (word : Token) (is : List Item) (start end : ℕ) (a : IriAxiom) → direct_group word.start (head_of (bytes_of text word)) (map (given text prefixes) is) ≡ Ok (direct.Axiom a) → IsAxiom text prefixes (item.Group (Some word) is start end) a
direct_group_stands text prefixes word is start end a = by (head_of (bytes_of text word)) refl
  where
    declared : declaration word.start (after_annotations (map (given text prefixes) is)) ≡ Ok (direct.Axiom a) → ⊥
    declared e = let p = parted text prefixes is in declaration_no_axiom text prefixes word.start p.operands a (ap (declaration word.start) (sym p.left) ∙ e)

    by : (k : Head) → head_of (bytes_of text word) ≡ k → direct_group word.start k (map (given text prefixes) is) ≡ Ok (direct.Axiom a) → IsAxiom text prefixes (item.Group (Some word) is start end) a
    by head.Annotation h e = cc
    by head.AnnotationAssertion h e = cc
    by head.SubAnnotationPropertyOf h e = cc
    by head.AnnotationPropertyDomain h e = cc
    by head.AnnotationPropertyRange h e = cc
    by head.Declaration h e = absurd (declared e)
    by k h e = stated_group text prefixes word k is start end a h e

abbrev StatesAxiom : List ℕ → Prefixes → Item → Type 0
StatesAxiom text prefixes i = (a : IriAxiom) → (given text prefixes i).direct ≡ Ok (direct.Axiom a) → IsAxiom text prefixes i a

direct_step : (text : List ℕ) (prefixes : Prefixes) (x : Item-F Item) → StatesAxiom text prefixes (roll-Item x)
direct_step text prefixes (Item-F.Atom token) = subst (StatesAxiom text prefixes) (sym (rolls-Atom token)) (λ a e.
    let bad : Err (fault.Head token.start) ≡ Ok (direct.Axiom a) = sym (ap (λ (g : Given). g.direct) (atom_gives text prefixes token)) ∙ e in cc)
direct_step text prefixes (Item-F.Group None is start end) = subst (StatesAxiom text prefixes) (sym (rolls-Group None is start end)) (λ a e.
    let bad : Err (fault.Head start) ≡ Ok (direct.Axiom a) = sym (ap (λ (g : Given). g.direct) (bare_gives text prefixes is start end)) ∙ e in cc)
direct_step text prefixes (Item-F.Group (Some word) is start end) = subst (StatesAxiom text prefixes) (sym (rolls-Group (Some word) is start end)) (λ a e.
    direct_group_stands text prefixes word is start end a (sym (ap (λ (g : Given). g.direct) (group_gives text prefixes word is start end)) ∙ e))

-- an item that is read as an axiom states it
pub axiom_stands : (text : List ℕ) (prefixes : Prefixes) (i : Item) (a : IriAxiom) → (given text prefixes i).direct ≡ Ok (direct.Axiom a) → IsAxiom text prefixes i a
axiom_stands text prefixes = ind-Item (StatesAxiom text prefixes) (λ x y is. direct_step text prefixes x)
