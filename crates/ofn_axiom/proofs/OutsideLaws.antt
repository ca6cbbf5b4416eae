-- What is outside the fragment is read as the fault that says so.
use Rattle.std.proofs.Common.{◌≡◌, ℕ, Bool, true, false, cond, List, [], ◌∷◌, ◌++◌, map, refl, ap, ◌∙◌}
use Rattle.std.specs.Prelude.{Result, Err}
use Rattle.ofn_term.specs.declared.item.Item.{Item}
use Rattle.ofn_heads.specs.declared.head.Head.{Head}
use Rattle.ofn_heads.specs.declared.outside.HeadId.{HeadId}
use Rattle.text_names.specs.Prefixes.{Prefixes}
use Rattle.ofn_axiom.specs.declared.fault.OffsetFault.{OffsetFault}
use Rattle.ofn_axiom.specs.declared.fault.OffsetFault.TheVariants as fault
use Rattle.ofn_axiom.specs.declared.types.IriExpr.{IriExpr}
use Rattle.ofn_axiom.specs.declared.types.IriAxiom.{IriAxiom}
use Rattle.ofn_axiom.specs.Steps.{◌>>=◌}
use Rattle.ofn_axiom.specs.Given.{Given, given, property_named, all_fit, alone, classes_onto, properties_onto, some_classes, some_properties, as_intersection, as_restriction, class_after, with_class, class_group, chain_group, as_equivalent, as_disjoint, as_equivalent_roles, as_transitive, as_reflexive, as_domain, as_sub_class, above, as_sub_role, role_above, axiom_group, as_axiom, entity_group, declaration, direct_group, is_annotation, after_annotations, misplaced}
use Rattle.ofn_axiom.specs.StandsFor.{top_property, bottom_property}
use Rattle.ofn_axiom.specs.Outside.{Fits, group_fits, AllFit, IsHeadOutside, outside_head, IsPropertyOutside, top_outside, bottom_outside, head_for_property, IsAmongProperties, property_here, property_later, IsClassOutside, head_for_class, in_intersection, in_property, in_filler, IsAmongClasses, class_here, class_later, IsChainOutside, single_outside, in_chain, IsInOperands, in_sub_class, in_equivalent, in_disjoint, in_lower_property, in_upper_property, in_equivalent_properties, in_transitive, in_reflexive, in_domain_property, in_domain_class, IsOutside, direct_outside, entity_outside, operand_outside}
use Rattle.ofn_axiom.specs.Outside as forms
use Rattle.ofn_axiom.proofs.GivenLaws.{atom_gives, group_gives}
use Rattle.ofn_axiom.proofs.StandsLaws.{iri_name, iri_fits, property_read, class_read, two_fit}
use Rattle.ofn_axiom.proofs.ChainLaws.{chain_read}
use Rattle.ofn_axiom.proofs.AxiomLaws.{skipped, stop_at, class_goes_on, property_goes_on, chain_goes_on}

-- the fault that something is outside
abbrev pub outside_at : {A : Type 0} → ℕ → HeadId → Result A OffsetFault
outside_at at outside = Err (fault.Profile at outside)

-- a fault of a property
abbrev property_as : OffsetFault → Result (List ℕ) OffsetFault
property_as f = Err f

-- what a group whose head is outside gives
record GivesOutside (g : Given) (at : ℕ) (outside : HeadId) : Type 0 where
  fits : g.fits ≡ true
  headed : g.headed ≡ true
  goes_on : is_annotation g.head ≡ false
  class : g.class ≡ outside_at at outside
  property : g.property ≡ outside_at at outside
  chain : g.chain ≡ outside_at at outside
  entity : g.entity ≡ outside_at at outside
  direct : g.direct ≡ outside_at at outside

-- a group whose head is outside gives that fault in each place
head_gives : (text : List ℕ) (prefixes : Prefixes) (i : Item) (at : ℕ) (outside : HeadId) → IsHeadOutside text i at outside → GivesOutside (given text prefixes i) at outside
head_gives text prefixes _ _ _ (outside_head word is start end outside h) =
    let e = group_gives text prefixes word is start end in
    let gs = map (given text prefixes) is in
    record {
      fits = ap (λ (g : Given). g.fits) e;
      headed = ap (λ (g : Given). g.headed) e;
      goes_on = ap (λ (g : Given). is_annotation g.head) e ∙ ap is_annotation h;
      class = ap (λ (g : Given). g.class) e ∙ ap (λ (k : Head). class_group word.start k gs) h;
      property = ap (λ (g : Given). g.property) e ∙ ap (λ (k : Head). property_as (misplaced word.start k)) h;
      chain = ap (λ (g : Given). g.chain) e ∙ ap (λ (k : Head). chain_group word.start k gs) h;
      entity = ap (λ (g : Given). g.entity) e ∙ ap (λ (k : Head). entity_group word.start k gs) h;
      direct = ap (λ (g : Given). g.direct) e ∙ ap (λ (k : Head). direct_group word.start k gs) h;
    }

-- what stands for a property and is outside
record GivesOutsideProperty (g : Given) (at : ℕ) (outside : HeadId) : Type 0 where
  fits : g.fits ≡ true
  goes_on : is_annotation g.head ≡ false
  property : g.property ≡ outside_at at outside
  chain : g.chain ≡ outside_at at outside

-- so does what is outside in the place of a property
property_gives : (text : List ℕ) (prefixes : Prefixes) (i : Item) (at : ℕ) (outside : HeadId) → IsPropertyOutside text prefixes i at outside → GivesOutsideProperty (given text prefixes i) at outside
property_gives text prefixes _ _ _ (top_outside token is) =
    let e = atom_gives text prefixes token in
    let read = ap (property_named token.start) (iri_name text prefixes token top_property is) in
    record {
      fits = ap (λ (g : Given). g.fits) e ∙ iri_fits text prefixes token top_property is;
      goes_on = ap (λ (g : Given). is_annotation g.head) e;
      property = ap (λ (g : Given). g.property) e ∙ read;
      chain = ap (λ (g : Given). g.chain) e ∙ ap (λ (r : Result (List ℕ) OffsetFault). r >>= alone) read;
    }
property_gives text prefixes _ _ _ (bottom_outside token is) =
    let e = atom_gives text prefixes token in
    let read = ap (property_named token.start) (iri_name text prefixes token bottom_property is) in
    record {
      fits = ap (λ (g : Given). g.fits) e ∙ iri_fits text prefixes token bottom_property is;
      goes_on = ap (λ (g : Given). is_annotation g.head) e;
      property = ap (λ (g : Given). g.property) e ∙ read;
      chain = ap (λ (g : Given). g.chain) e ∙ ap (λ (r : Result (List ℕ) OffsetFault). r >>= alone) read;
    }
property_gives text prefixes _ _ _ (head_for_property i at outside is) =
    let g = head_gives text prefixes i at outside is in
    record { fits = g.fits; goes_on = g.goes_on; property = g.property; chain = g.chain }

-- an item that fits is read so
fits_read : (text : List ℕ) (prefixes : Prefixes) (i : Item) → Fits text i → (given text prefixes i).fits ≡ true
fits_read text prefixes _ (forms.iri_fits token is) = ap (λ (g : Given). g.fits) (atom_gives text prefixes token) ∙ is
fits_read text prefixes _ (group_fits word is start end) = ap (λ (g : Given). g.fits) (group_gives text prefixes word is start end)

-- several items that fit are read so
all_fit_read : (text : List ℕ) (prefixes : Prefixes) (is : List Item) → AllFit text is → all_fit (map (given text prefixes) is) ≡ true
all_fit_read text prefixes [] fit = refl
all_fit_read text prefixes (i ∷ is) fit = rw (fits_read text prefixes i fit.0, all_fit_read text prefixes is fit.1) refl

-- properties, then one that is outside
among_properties : (text : List ℕ) (prefixes : Prefixes) (is : List Item) (at : ℕ) (outside : HeadId) → IsAmongProperties text prefixes is at outside → (done : List (List ℕ)) → properties_onto done (map (given text prefixes) is) ≡ outside_at at outside
among_properties text prefixes _ _ _ (property_here i is at outside here) done =
    ap (λ (r : Result (List ℕ) OffsetFault). r >>= λ k. properties_onto (done ++ k ∷ []) (map (given text prefixes) is)) (property_gives text prefixes i at outside here).property
among_properties text prefixes _ _ _ (property_later i is iri at outside first later) done =
    ap (λ (r : Result (List ℕ) OffsetFault). r >>= λ k. properties_onto (done ++ k ∷ []) (map (given text prefixes) is)) (property_read text prefixes i iri first).0
    ∙ among_properties text prefixes is at outside later (done ++ iri ∷ [])

-- one or more, of which one is outside
some_properties_read : (text : List ℕ) (prefixes : Prefixes) (place : ℕ) (is : List Item) (at : ℕ) (outside : HeadId) → AllFit text is → IsAmongProperties text prefixes is at outside → some_properties place (map (given text prefixes) is) ≡ outside_at at outside
some_properties_read text prefixes place [] at outside fit among = elim among [ ]
some_properties_read text prefixes place (i ∷ is) at outside fit among =
    ap (λ (b : Bool). cond b (properties_onto [] (map (given text prefixes) (i ∷ is))) (Err (fault.Shape place))) (all_fit_read text prefixes (i ∷ is) fit)
    ∙ among_properties text prefixes (i ∷ is) at outside among []

-- one or more class expressions, where their reading is known
some_classes_read : (text : List ℕ) (prefixes : Prefixes) (place : ℕ) (is : List Item) (at : ℕ) (outside : HeadId) → AllFit text is → IsAmongClasses text prefixes is at outside → classes_onto [] (map (given text prefixes) is) ≡ outside_at at outside → some_classes place (map (given text prefixes) is) ≡ outside_at at outside
some_classes_read text prefixes place [] at outside fit among e = elim among [ ]
some_classes_read text prefixes place (i ∷ is) at outside fit among e =
    ap (λ (b : Bool). cond b (classes_onto [] (map (given text prefixes) (i ∷ is))) (Err (fault.Shape place))) (all_fit_read text prefixes (i ∷ is) fit) ∙ e

mutual
  -- a class expression in which something is outside
  pub class_outside_read : (text : List ℕ) (prefixes : Prefixes) (i : Item) (at : ℕ) (outside : HeadId) → IsClassOutside text prefixes i at outside → (given text prefixes i).class ≡ outside_at at outside
  class_outside_read text prefixes _ _ _ (head_for_class i at outside is) = (head_gives text prefixes i at outside is).class
  class_outside_read text prefixes _ _ _ (in_intersection word is start end at outside h fit among) =
      ap (λ (g : Given). g.class) (group_gives text prefixes word is start end)
      ∙ ap (λ (k : Head). class_group word.start k (map (given text prefixes) is)) h
      ∙ ap (λ (r : Result (List IriExpr) OffsetFault). r >>= as_intersection) (some_classes_read text prefixes word.start is at outside fit among (among_classes text prefixes is at outside among []))
  class_outside_read text prefixes _ _ _ (in_property word p c start end at outside h fit is) =
      let g = property_gives text prefixes p at outside is in
      ap (λ (g : Given). g.class) (group_gives text prefixes word (p ∷ c ∷ []) start end)
      ∙ ap (λ (k : Head). class_group word.start k (map (given text prefixes) (p ∷ c ∷ []))) h
      ∙ ap (λ (x : Result (List ℕ × IriExpr) OffsetFault). x >>= as_restriction)
      (two_fit (given text prefixes p).fits (given text prefixes c).fits ((given text prefixes p).property >>= class_after (given text prefixes c)) (Err (fault.Shape word.start)) g.fits (fits_read text prefixes c fit)
      ∙ ap (λ (x : Result (List ℕ) OffsetFault). x >>= class_after (given text prefixes c)) g.property)
  class_outside_read text prefixes _ _ _ (in_filler word p c iri start end at outside h fit first is) =
      ap (λ (g : Given). g.class) (group_gives text prefixes word (p ∷ c ∷ []) start end)
      ∙ ap (λ (k : Head). class_group word.start k (map (given text prefixes) (p ∷ c ∷ []))) h
      ∙ ap (λ (x : Result (List ℕ × IriExpr) OffsetFault). x >>= as_restriction)
      (two_fit (given text prefixes p).fits (given text prefixes c).fits ((given text prefixes p).property >>= class_after (given text prefixes c)) (Err (fault.Shape word.start)) (property_read text prefixes p iri first).1 (fits_read text prefixes c fit)
      ∙ ap (λ (x : Result (List ℕ) OffsetFault). x >>= class_after (given text prefixes c)) (property_read text prefixes p iri first).0
      ∙ ap (λ (x : Result IriExpr OffsetFault). x >>= with_class iri) (class_outside_read text prefixes c at outside is))

  -- class expressions, then one in which something is outside
  among_classes : (text : List ℕ) (prefixes : Prefixes) (is : List Item) (at : ℕ) (outside : HeadId) → IsAmongClasses text prefixes is at outside → (done : List IriExpr) → classes_onto done (map (given text prefixes) is) ≡ outside_at at outside
  among_classes text prefixes _ _ _ (class_here i is at outside here) done =
      ap (λ (r : Result IriExpr OffsetFault). r >>= λ k. classes_onto (done ++ k ∷ []) (map (given text prefixes) is)) (class_outside_read text prefixes i at outside here)
  among_classes text prefixes _ _ _ (class_later i is c at outside first later) done =
      ap (λ (r : Result IriExpr OffsetFault). r >>= λ k. classes_onto (done ++ k ∷ []) (map (given text prefixes) is)) (class_read text prefixes i c first)
      ∙ among_classes text prefixes is at outside later (done ++ c ∷ [])

-- what stands for a chain and is outside
record GivesOutsideChain (g : Given) (at : ℕ) (outside : HeadId) : Type 0 where
  fits : g.fits ≡ true
  goes_on : is_annotation g.head ≡ false
  chain : g.chain ≡ outside_at at outside

-- what is outside in the place of a chain gives that fault
chain_gives : (text : List ℕ) (prefixes : Prefixes) (i : Item) (at : ℕ) (outside : HeadId) → IsChainOutside text prefixes i at outside → GivesOutsideChain (given text prefixes i) at outside
chain_gives text prefixes _ _ _ (single_outside i at outside is) =
    let g = property_gives text prefixes i at outside is in record { fits = g.fits; goes_on = g.goes_on; chain = g.chain }
chain_gives text prefixes _ _ _ (in_chain word i j is start end at outside h fit among) =
    let e = group_gives text prefixes word (i ∷ j ∷ is) start end in
    record {
      fits = ap (λ (g : Given). g.fits) e;
      goes_on = ap (λ (g : Given). is_annotation g.head) e ∙ ap is_annotation h;
      chain =
          ap (λ (g : Given). g.chain) e
          ∙ ap (λ (k : Head). chain_group word.start k (map (given text prefixes) (i ∷ j ∷ is))) h
          ∙ some_properties_read text prefixes word.start (i ∷ j ∷ is) at outside fit among;
    }

-- one of two class expressions
one_of_two : (text : List ℕ) (prefixes : Prefixes) (i j : Item) (at : ℕ) (outside : HeadId) → IsAmongClasses text prefixes (i ∷ j ∷ []) at outside → ((given text prefixes i).class >>= above (given text prefixes j)) ≡ outside_at at outside
one_of_two text prefixes i j _ _ (class_here _ _ at outside here) = ap (λ (r : Result IriExpr OffsetFault). r >>= above (given text prefixes j)) (class_outside_read text prefixes i at outside here)
one_of_two text prefixes i j _ _ (class_later _ _ c at outside first (class_here _ _ _ _ here)) =
    ap (λ (r : Result IriExpr OffsetFault). r >>= above (given text prefixes j)) (class_read text prefixes i c first)
    ∙ ap (λ (r : Result IriExpr OffsetFault). r >>= as_sub_class c) (class_outside_read text prefixes j at outside here)
one_of_two text prefixes i j _ _ (class_later _ _ c at outside first (class_later _ _ d _ _ second later)) = elim later [ ]

-- one property
one_property_read : (text : List ℕ) (prefixes : Prefixes) (place : ℕ) (i : Item) (at : ℕ) (outside : HeadId) → IsPropertyOutside text prefixes i at outside → cond (given text prefixes i).fits (given text prefixes i).property (Err (fault.Shape place)) ≡ outside_at at outside
one_property_read text prefixes place i at outside is =
    let g = property_gives text prefixes i at outside is in
    ap (λ (b : Bool). cond b (given text prefixes i).property (Err (fault.Shape place))) g.fits ∙ g.property

-- operands of which one is the first in which something is outside
operands_outside : (text : List ℕ) (prefixes : Prefixes) (h : Head) (is : List Item) (at : ℕ) (outside : HeadId) → IsInOperands text prefixes h is at outside → (place : ℕ) → axiom_group place h (map (given text prefixes) is) ≡ outside_at at outside
operands_outside text prefixes _ _ _ _ (in_sub_class i j at outside fit among) place =
    two_fit (given text prefixes i).fits (given text prefixes j).fits ((given text prefixes i).class >>= above (given text prefixes j)) (Err (fault.Shape place)) (fits_read text prefixes i fit.0) (fits_read text prefixes j fit.1.0)
    ∙ one_of_two text prefixes i j at outside among
operands_outside text prefixes _ _ _ _ (in_equivalent is at outside fit among) place =
    ap (λ (r : Result (List IriExpr) OffsetFault). r >>= as_equivalent) (some_classes_read text prefixes place is at outside fit among (among_classes text prefixes is at outside among []))
operands_outside text prefixes _ _ _ _ (in_disjoint is at outside fit among) place =
    ap (λ (r : Result (List IriExpr) OffsetFault). r >>= as_disjoint) (some_classes_read text prefixes place is at outside fit among (among_classes text prefixes is at outside among []))
operands_outside text prefixes _ _ _ _ (in_lower_property i j at outside fit is) place =
    let g = chain_gives text prefixes i at outside is in
    two_fit (given text prefixes i).fits (given text prefixes j).fits ((given text prefixes i).chain >>= role_above (given text prefixes j)) (Err (fault.Shape place)) g.fits (fits_read text prefixes j fit)
    ∙ ap (λ (r : Result (List (List ℕ)) OffsetFault). r >>= role_above (given text prefixes j)) g.chain
operands_outside text prefixes _ _ _ _ (in_upper_property i j chain at outside lower is) place =
    let g = property_gives text prefixes j at outside is in
    two_fit (given text prefixes i).fits (given text prefixes j).fits ((given text prefixes i).chain >>= role_above (given text prefixes j)) (Err (fault.Shape place)) (chain_read text prefixes i chain lower).1 g.fits
    ∙ ap (λ (r : Result (List (List ℕ)) OffsetFault). r >>= role_above (given text prefixes j)) (chain_read text prefixes i chain lower).0
    ∙ ap (λ (r : Result (List ℕ) OffsetFault). r >>= as_sub_role chain) g.property
operands_outside text prefixes _ _ _ _ (in_equivalent_properties is at outside fit among) place =
    ap (λ (r : Result (List (List ℕ)) OffsetFault). r >>= as_equivalent_roles) (some_properties_read text prefixes place is at outside fit among)
operands_outside text prefixes _ _ _ _ (in_transitive i at outside is) place =
    ap (λ (r : Result (List ℕ) OffsetFault). r >>= as_transitive) (one_property_read text prefixes place i at outside is)
operands_outside text prefixes _ _ _ _ (in_reflexive i at outside is) place =
    ap (λ (r : Result (List ℕ) OffsetFault). r >>= as_reflexive) (one_property_read text prefixes place i at outside is)
operands_outside text prefixes _ _ _ _ (in_domain_property i j at outside fit is) place =
    let g = property_gives text prefixes i at outside is in
    ap (λ (x : Result (List ℕ × IriExpr) OffsetFault). x >>= as_domain)
    (two_fit (given text prefixes i).fits (given text prefixes j).fits ((given text prefixes i).property >>= class_after (given text prefixes j)) (Err (fault.Shape place)) g.fits (fits_read text prefixes j fit)
    ∙ ap (λ (x : Result (List ℕ) OffsetFault). x >>= class_after (given text prefixes j)) g.property)
operands_outside text prefixes _ _ _ _ (in_domain_class i j iri at outside fit first is) place =
    ap (λ (x : Result (List ℕ × IriExpr) OffsetFault). x >>= as_domain)
    (two_fit (given text prefixes i).fits (given text prefixes j).fits ((given text prefixes i).property >>= class_after (given text prefixes j)) (Err (fault.Shape place)) (property_read text prefixes i iri first).1 (fits_read text prefixes j fit)
    ∙ ap (λ (x : Result (List ℕ) OffsetFault). x >>= class_after (given text prefixes j)) (property_read text prefixes i iri first).0
    ∙ ap (λ (x : Result IriExpr OffsetFault). x >>= with_class iri) (class_outside_read text prefixes j at outside is))

-- the first operand is no annotation
class_outside_goes_on : (text : List ℕ) (prefixes : Prefixes) (i : Item) (at : ℕ) (outside : HeadId) → IsClassOutside text prefixes i at outside → is_annotation (given text prefixes i).head ≡ false
class_outside_goes_on text prefixes _ _ _ (head_for_class i at outside is) = (head_gives text prefixes i at outside is).goes_on
class_outside_goes_on text prefixes _ _ _ (in_intersection word is start end at outside h fit among) = ap (λ (g : Given). is_annotation g.head) (group_gives text prefixes word is start end) ∙ ap is_annotation h
class_outside_goes_on text prefixes _ _ _ (in_property word p c start end at outside h fit is) = ap (λ (g : Given). is_annotation g.head) (group_gives text prefixes word (p ∷ c ∷ []) start end) ∙ ap is_annotation h
class_outside_goes_on text prefixes _ _ _ (in_filler word p c iri start end at outside h fit first is) = ap (λ (g : Given). is_annotation g.head) (group_gives text prefixes word (p ∷ c ∷ []) start end) ∙ ap is_annotation h

-- so such class expressions begin with no annotation
classes_outside_begin : (text : List ℕ) (prefixes : Prefixes) (is : List Item) (at : ℕ) (outside : HeadId) → IsAmongClasses text prefixes is at outside → after_annotations (map (given text prefixes) is) ≡ map (given text prefixes) is
classes_outside_begin text prefixes _ _ _ (class_here i is at outside here) = stop_at _ _ (class_outside_goes_on text prefixes i at outside here)
classes_outside_begin text prefixes _ _ _ (class_later i is c at outside first later) = stop_at _ _ (class_goes_on text prefixes i c first)

-- nor do such properties
properties_outside_begin : (text : List ℕ) (prefixes : Prefixes) (is : List Item) (at : ℕ) (outside : HeadId) → IsAmongProperties text prefixes is at outside → after_annotations (map (given text prefixes) is) ≡ map (given text prefixes) is
properties_outside_begin text prefixes _ _ _ (property_here i is at outside here) = stop_at _ _ (property_gives text prefixes i at outside here).goes_on
properties_outside_begin text prefixes _ _ _ (property_later i is iri at outside first later) = stop_at _ _ (property_goes_on text prefixes i iri first)

-- nor do such operands
operands_outside_begin : (text : List ℕ) (prefixes : Prefixes) (h : Head) (is : List Item) (at : ℕ) (outside : HeadId) → IsInOperands text prefixes h is at outside → after_annotations (map (given text prefixes) is) ≡ map (given text prefixes) is
operands_outside_begin text prefixes _ _ _ _ (in_sub_class i j at outside fit among) = classes_outside_begin text prefixes (i ∷ j ∷ []) at outside among
operands_outside_begin text prefixes _ _ _ _ (in_equivalent is at outside fit among) = classes_outside_begin text prefixes is at outside among
operands_outside_begin text prefixes _ _ _ _ (in_disjoint is at outside fit among) = classes_outside_begin text prefixes is at outside among
operands_outside_begin text prefixes _ _ _ _ (in_lower_property i j at outside fit is) = stop_at _ _ (chain_gives text prefixes i at outside is).goes_on
operands_outside_begin text prefixes _ _ _ _ (in_upper_property i j chain at outside lower is) = stop_at _ _ (chain_goes_on text prefixes i chain lower)
operands_outside_begin text prefixes _ _ _ _ (in_equivalent_properties is at outside fit among) = properties_outside_begin text prefixes is at outside among
operands_outside_begin text prefixes _ _ _ _ (in_transitive i at outside is) = stop_at _ _ (property_gives text prefixes i at outside is).goes_on
operands_outside_begin text prefixes _ _ _ _ (in_reflexive i at outside is) = stop_at _ _ (property_gives text prefixes i at outside is).goes_on
operands_outside_begin text prefixes _ _ _ _ (in_domain_property i j at outside fit is) = stop_at _ _ (property_gives text prefixes i at outside is).goes_on
operands_outside_begin text prefixes _ _ _ _ (in_domain_class i j iri at outside fit first is) = stop_at _ _ (property_goes_on text prefixes i iri first)

-- the heads of axioms are those of direct items with operands
direct_has_operands : (text : List ℕ) (prefixes : Prefixes) (h : Head) (is : List Item) (at : ℕ) (outside : HeadId) → IsInOperands text prefixes h is at outside → (place : ℕ) (gs : List Given) → direct_group place h gs ≡ (axiom_group place h (after_annotations gs) >>= as_axiom)
direct_has_operands text prefixes _ _ _ _ (in_sub_class i j at outside fit among) place gs = refl
direct_has_operands text prefixes _ _ _ _ (in_equivalent is at outside fit among) place gs = refl
direct_has_operands text prefixes _ _ _ _ (in_disjoint is at outside fit among) place gs = refl
direct_has_operands text prefixes _ _ _ _ (in_lower_property i j at outside fit is) place gs = refl
direct_has_operands text prefixes _ _ _ _ (in_upper_property i j chain at outside lower is) place gs = refl
direct_has_operands text prefixes _ _ _ _ (in_equivalent_properties is at outside fit among) place gs = refl
direct_has_operands text prefixes _ _ _ _ (in_transitive i at outside is) place gs = refl
direct_has_operands text prefixes _ _ _ _ (in_reflexive i at outside is) place gs = refl
direct_has_operands text prefixes _ _ _ _ (in_domain_property i j at outside fit is) place gs = refl
direct_has_operands text prefixes _ _ _ _ (in_domain_class i j iri at outside fit first is) place gs = refl

-- a direct item that is outside is read as the fault that says so
pub outside_read : (text : List ℕ) (prefixes : Prefixes) (i : Item) (at : ℕ) (outside : HeadId) → IsOutside text prefixes i at outside → (given text prefixes i).direct ≡ Err (fault.Profile at outside)
outside_read text prefixes _ _ _ (direct_outside i at outside is) = (head_gives text prefixes i at outside is).direct
outside_read text prefixes _ _ _ (entity_outside word annotations e start end at outside h are is) =
    let g = head_gives text prefixes e at outside is in
    ap (λ (g : Given). g.direct) (group_gives text prefixes word (annotations ++ e ∷ []) start end)
    ∙ ap (λ (k : Head). direct_group word.start k (map (given text prefixes) (annotations ++ e ∷ []))) h
    ∙ ap (declaration word.start) (skipped text prefixes annotations (e ∷ []) are (stop_at _ _ g.goes_on))
    ∙ ap (λ (b : Bool). cond b (given text prefixes e).entity (Err (fault.Shape word.start))) g.headed
    ∙ g.entity
outside_read text prefixes _ _ _ (operand_outside word h annotations operands start end at outside is_head are is) =
    ap (λ (g : Given). g.direct) (group_gives text prefixes word (annotations ++ operands) start end)
    ∙ ap (λ (k : Head). direct_group word.start k (map (given text prefixes) (annotations ++ operands))) is_head
    ∙ direct_has_operands text prefixes h operands at outside is word.start (map (given text prefixes) (annotations ++ operands))
    ∙ ap (λ (gs : List Given). axiom_group word.start h gs >>= as_axiom) (skipped text prefixes annotations operands are (operands_outside_begin text prefixes h operands at outside is))
    ∙ ap (λ (r : Result IriAxiom OffsetFault). r >>= as_axiom) (operands_outside text prefixes h operands at outside is word.start)
