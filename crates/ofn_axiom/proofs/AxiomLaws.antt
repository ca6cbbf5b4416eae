-- What states an axiom is read as it.
use Rattle.std.proofs.Common.{◌≡◌, ℕ, Bool, true, false, cond, List, [], ◌∷◌, ◌++◌, map, refl, ap, ◌∙◌}
use Rattle.std.specs.Prelude.{Result, Ok, Err}
use Rattle.ofn_term.specs.declared.item.Item.{Item}
use Rattle.ofn_heads.specs.declared.head.Head.{Head}
use Rattle.ofn_heads.specs.declared.head.Head.TheVariants as head
use Rattle.text_names.specs.Prefixes.{Prefixes}
use Rattle.ofn_axiom.specs.declared.fault.OffsetFault.{OffsetFault}
use Rattle.ofn_axiom.specs.declared.fault.OffsetFault.TheVariants as fault
use Rattle.ofn_axiom.specs.declared.types.IriExpr.{IriExpr}
use Rattle.ofn_axiom.specs.declared.types.IriAxiom.{IriAxiom}
use Rattle.ofn_axiom.specs.declared.types.Direct.TheVariants as direct
use Rattle.ofn_axiom.specs.Steps.{◌>>=◌}
use Rattle.ofn_axiom.specs.Given.{Given, given, all_fit, classes_onto, as_equivalent, as_disjoint, as_equivalent_roles, as_transitive, as_reflexive, as_domain, as_sub_class, above, as_sub_role, role_above, class_after, with_class, axiom_group, direct_group, is_annotation, after_annotations, as_axiom}
use Rattle.ofn_axiom.specs.StandsFor.{IsProperty, property, AreProperties, IsClass, top, bottom, class, intersection, restriction, AreClasses, one_more, IsChain, single, chained, IsAxiomOf, sub_class, equivalent, disjoint, sub_property, equivalent_properties, transitive, reflexive, domain, IsAnnotation, annotation, AreAnnotations, IsAxiom, stated}
use Rattle.ofn_axiom.proofs.GivenLaws.{atom_gives, group_gives}
use Rattle.ofn_axiom.proofs.StandsLaws.{property_read, class_read, class_fits, classes_read, classes_fit, two_fit}
use Rattle.ofn_axiom.proofs.ChainLaws.{chain_read, some_read}

-- one or more classes
pub some_classes_read : (text : List ℕ) (prefixes : Prefixes) (at : ℕ) (i : Item) (is : List Item) (cs : List IriExpr) → AreClasses text prefixes (i ∷ is) cs → cond (all_fit (map (given text prefixes) (i ∷ is))) (classes_onto [] (map (given text prefixes) (i ∷ is))) (Err (fault.Shape at)) ≡ Ok cs
some_classes_read text prefixes at i is cs each =
    ap (λ (b : Bool). cond b (classes_onto [] (map (given text prefixes) (i ∷ is))) (Err (fault.Shape at))) (classes_fit text prefixes (i ∷ is) cs each)
    ∙ classes_read text prefixes (i ∷ is) cs each []

-- a property that fits
one_fits : {A : Type 0} (b : Bool) (r s : A) → b ≡ true → cond b r s ≡ r
one_fits b r s e = ap (λ (t : Bool). cond t r s) e

-- operands are read as the axiom that their head says of them
pub operands_read : (text : List ℕ) (prefixes : Prefixes) (h : Head) (is : List Item) (a : IriAxiom) → IsAxiomOf text prefixes h is a → (at : ℕ) → axiom_group at h (map (given text prefixes) is) ≡ Ok a
operands_read text prefixes _ _ _ (sub_class i j c d lower upper) at =
    two_fit (given text prefixes i).fits (given text prefixes j).fits ((given text prefixes i).class >>= above (given text prefixes j)) (Err (fault.Shape at)) (class_fits text prefixes i c lower) (class_fits text prefixes j d upper)
    ∙ ap (λ (r : Result IriExpr OffsetFault). r >>= above (given text prefixes j)) (class_read text prefixes i c lower)
    ∙ ap (λ (r : Result IriExpr OffsetFault). r >>= as_sub_class c) (class_read text prefixes j d upper)
operands_read text prefixes _ _ _ (equivalent i is cs each) at = ap (λ (r : Result (List IriExpr) OffsetFault). r >>= as_equivalent) (some_classes_read text prefixes at i is cs each)
operands_read text prefixes _ _ _ (disjoint i is cs each) at = ap (λ (r : Result (List IriExpr) OffsetFault). r >>= as_disjoint) (some_classes_read text prefixes at i is cs each)
operands_read text prefixes _ _ _ (sub_property i j chain s lower upper) at =
    two_fit (given text prefixes i).fits (given text prefixes j).fits ((given text prefixes i).chain >>= role_above (given text prefixes j)) (Err (fault.Shape at)) (chain_read text prefixes i chain lower).1 (property_read text prefixes j s upper).1
    ∙ ap (λ (r : Result (List (List ℕ)) OffsetFault). r >>= role_above (given text prefixes j)) (chain_read text prefixes i chain lower).0
    ∙ ap (λ (r : Result (List ℕ) OffsetFault). r >>= as_sub_role chain) (property_read text prefixes j s upper).0
operands_read text prefixes _ _ _ (equivalent_properties i is rs each) at = ap (λ (r : Result (List (List ℕ)) OffsetFault). r >>= as_equivalent_roles) (some_read text prefixes at i is rs each)
operands_read text prefixes _ _ _ (transitive i r is) at = ap (λ (x : Result (List ℕ) OffsetFault). x >>= as_transitive) (one_fits (given text prefixes i).fits (given text prefixes i).property (Err (fault.Shape at)) (property_read text prefixes i r is).1 ∙ (property_read text prefixes i r is).0)
operands_read text prefixes _ _ _ (reflexive i r is) at = ap (λ (x : Result (List ℕ) OffsetFault). x >>= as_reflexive) (one_fits (given text prefixes i).fits (given text prefixes i).property (Err (fault.Shape at)) (property_read text prefixes i r is).1 ∙ (property_read text prefixes i r is).0)
operands_read text prefixes _ _ _ (domain i j r c is upper) at =
    ap (λ (x : Result (List ℕ × IriExpr) OffsetFault). x >>= as_domain)
    (two_fit (given text prefixes i).fits (given text prefixes j).fits ((given text prefixes i).property >>= class_after (given text prefixes j)) (Err (fault.Shape at)) (property_read text prefixes i r is).1 (class_fits text prefixes j c upper)
    ∙ ap (λ (x : Result (List ℕ) OffsetFault). x >>= class_after (given text prefixes j)) (property_read text prefixes i r is).0
    ∙ ap (λ (x : Result IriExpr OffsetFault). x >>= with_class r) (class_read text prefixes j c upper))

-- the first operand is no annotation
pub class_goes_on : (text : List ℕ) (prefixes : Prefixes) (i : Item) (c : IriExpr) → IsClass text prefixes i c → is_annotation (given text prefixes i).head ≡ false
class_goes_on text prefixes _ _ (top token is) = ap (λ (g : Given). is_annotation g.head) (atom_gives text prefixes token)
class_goes_on text prefixes _ _ (bottom token is) = ap (λ (g : Given). is_annotation g.head) (atom_gives text prefixes token)
class_goes_on text prefixes _ _ (class token iri is name) = ap (λ (g : Given). is_annotation g.head) (atom_gives text prefixes token)
class_goes_on text prefixes _ _ (intersection word i is start end classes h cs) = ap (λ (g : Given). is_annotation g.head) (group_gives text prefixes word (i ∷ is) start end) ∙ ap is_annotation h
class_goes_on text prefixes _ _ (restriction word p c start end iri filler h r f) = ap (λ (g : Given). is_annotation g.head) (group_gives text prefixes word (p ∷ c ∷ []) start end) ∙ ap is_annotation h

classes_go_on : (text : List ℕ) (prefixes : Prefixes) (i : Item) (is : List Item) (cs : List IriExpr) → AreClasses text prefixes (i ∷ is) cs → is_annotation (given text prefixes i).head ≡ false
classes_go_on text prefixes i is _ (one_more _ _ c cs first rest) = class_goes_on text prefixes i c first

pub property_goes_on : (text : List ℕ) (prefixes : Prefixes) (i : Item) (iri : List ℕ) → IsProperty text prefixes i iri → is_annotation (given text prefixes i).head ≡ false
property_goes_on text prefixes _ _ (property token iri is name) = ap (λ (g : Given). is_annotation g.head) (atom_gives text prefixes token)

properties_go_on : (text : List ℕ) (prefixes : Prefixes) (i : Item) (is : List Item) (iris : List (List ℕ)) → AreProperties text prefixes (i ∷ is) iris → is_annotation (given text prefixes i).head ≡ false
properties_go_on text prefixes i is [] each = absurd each
properties_go_on text prefixes i is (iri ∷ iris) each = property_goes_on text prefixes i iri each.0

pub chain_goes_on : (text : List ℕ) (prefixes : Prefixes) (i : Item) (iris : List (List ℕ)) → IsChain text prefixes i iris → is_annotation (given text prefixes i).head ≡ false
chain_goes_on text prefixes _ _ (single i iri is) = property_goes_on text prefixes i iri is
chain_goes_on text prefixes _ _ (chained word i j is start end iris h each) = ap (λ (g : Given). is_annotation g.head) (group_gives text prefixes word (i ∷ j ∷ is) start end) ∙ ap is_annotation h

-- so the operands begin there
pub stop_at : (g : Given) (gs : List Given) → is_annotation g.head ≡ false → after_annotations (g ∷ gs) ≡ g ∷ gs
stop_at g gs e = ap (λ (b : Bool). cond b (after_annotations gs) (g ∷ gs)) e

pub operands_begin : (text : List ℕ) (prefixes : Prefixes) (h : Head) (is : List Item) (a : IriAxiom) → IsAxiomOf text prefixes h is a → after_annotations (map (given text prefixes) is) ≡ map (given text prefixes) is
operands_begin text prefixes _ _ _ (sub_class i j c d lower upper) = stop_at _ _ (class_goes_on text prefixes i c lower)
operands_begin text prefixes _ _ _ (equivalent i is cs each) = stop_at _ _ (classes_go_on text prefixes i is cs each)
operands_begin text prefixes _ _ _ (disjoint i is cs each) = stop_at _ _ (classes_go_on text prefixes i is cs each)
operands_begin text prefixes _ _ _ (sub_property i j chain s lower upper) = stop_at _ _ (chain_goes_on text prefixes i chain lower)
operands_begin text prefixes _ _ _ (equivalent_properties i is rs each) = stop_at _ _ (properties_go_on text prefixes i is rs each)
operands_begin text prefixes _ _ _ (transitive i r is) = stop_at _ _ (property_goes_on text prefixes i r is)
operands_begin text prefixes _ _ _ (reflexive i r is) = stop_at _ _ (property_goes_on text prefixes i r is)
operands_begin text prefixes _ _ _ (domain i j r c is upper) = stop_at _ _ (property_goes_on text prefixes i r is)

-- the head of an annotation
annotation_head : (text : List ℕ) (prefixes : Prefixes) (i : Item) → IsAnnotation text i → (given text prefixes i).head ≡ head.Annotation
annotation_head text prefixes _ (annotation word items start end h) = ap (λ (g : Given). g.head) (group_gives text prefixes word items start end) ∙ h

-- annotations are skipped
pub skipped : (text : List ℕ) (prefixes : Prefixes) (annotations operands : List Item) → AreAnnotations text annotations → after_annotations (map (given text prefixes) operands) ≡ map (given text prefixes) operands → after_annotations (map (given text prefixes) (annotations ++ operands)) ≡ map (given text prefixes) operands
skipped text prefixes [] operands each begin = begin
skipped text prefixes (i ∷ is) operands each begin =
    ap (λ (k : Head). cond (is_annotation k) (after_annotations (map (given text prefixes) (is ++ operands))) (given text prefixes i ∷ map (given text prefixes) (is ++ operands))) (annotation_head text prefixes i each.0)
    ∙ skipped text prefixes is operands each.1 begin

-- the heads of axioms are those of direct items with operands
direct_is_axiom : (text : List ℕ) (prefixes : Prefixes) (h : Head) (is : List Item) (a : IriAxiom) → IsAxiomOf text prefixes h is a → (at : ℕ) (gs : List Given) → direct_group at h gs ≡ (axiom_group at h (after_annotations gs) >>= as_axiom)
direct_is_axiom text prefixes _ _ _ (sub_class i j c d lower upper) at gs = refl
direct_is_axiom text prefixes _ _ _ (equivalent i is cs each) at gs = refl
direct_is_axiom text prefixes _ _ _ (disjoint i is cs each) at gs = refl
direct_is_axiom text prefixes _ _ _ (sub_property i j chain s lower upper) at gs = refl
direct_is_axiom text prefixes _ _ _ (equivalent_properties i is rs each) at gs = refl
direct_is_axiom text prefixes _ _ _ (transitive i r is) at gs = refl
direct_is_axiom text prefixes _ _ _ (reflexive i r is) at gs = refl
direct_is_axiom text prefixes _ _ _ (domain i j r c is upper) at gs = refl

-- an item that states an axiom is read as it
pub axiom_read : (text : List ℕ) (prefixes : Prefixes) (i : Item) (a : IriAxiom) → IsAxiom text prefixes i a → (given text prefixes i).direct ≡ Ok (direct.Axiom a)
axiom_read text prefixes _ _ (stated word h annotations operands start end a is_head are is) =
    ap (λ (g : Given). g.direct) (group_gives text prefixes word (annotations ++ operands) start end)
    ∙ ap (λ (k : Head). direct_group word.start k (map (given text prefixes) (annotations ++ operands))) is_head
    ∙ direct_is_axiom text prefixes h operands a is word.start (map (given text prefixes) (annotations ++ operands))
    ∙ ap (λ (gs : List Given). axiom_group word.start h gs >>= as_axiom) (skipped text prefixes annotations operands are (operands_begin text prefixes h operands a is))
    ∙ ap (λ (r : Result IriAxiom OffsetFault). r >>= as_axiom) (operands_read text prefixes h operands a is word.start)
