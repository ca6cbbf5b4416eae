use Rattle.std.proofs.Common.{◌∙◌, List, ℕ, IsTrue, ap, sym, subst}
use Rattle.std.specs.Prelude.{◌↔◌, IfOk}
use Rattle.el_logic.specs.declared.types.Axiom.TheVariants.{Equivalent, SubRole, EquivalentRoles}
use Rattle.el_logic.specs.Meaning.{Holds}
use Rattle.model_members.proofs.axioms.holds_by_lists.Goals as goal

pub returns-in-SubClass : goal.returns-in-SubClass
returns-in-SubClass c =
    subst (λ a. IfOk c.is_class_within.result (λ yes. IsTrue yes ↔ Holds c.args.lists.now.ordered a)) (sym c.in-SubClass.is) c.is_class_within.ensures

pub returns-in-Equivalent : goal.returns-in-Equivalent
returns-in-Equivalent c =
    subst (λ a. IfOk c.are_equivalent.result (λ yes. IsTrue yes ↔ Holds c.args.lists.now.ordered a)) (ap Equivalent c.as_slice.ensures ∙ sym c.in-Equivalent.is) c.are_equivalent.ensures

pub returns-in-Some : goal.returns-in-Some
returns-in-Some c =
    subst (λ a. IfOk c.is_chain_within.result (λ yes. IsTrue yes ↔ Holds c.args.lists.now.ordered a))
    (ap (λ (chain : List ℕ). SubRole chain c.in-SubRole.upper) (sym c.in-Some.ensures.cases.0 ∙ c.as_slice-in-SubRole.ensures) ∙ sym c.in-SubRole.is) c.is_chain_within.ensures

pub holds-requires : goal.holds-requires
holds-requires c = c.requires.fits

pub returns-in-EquivalentRoles : goal.returns-in-EquivalentRoles
returns-in-EquivalentRoles c =
    subst (λ a. IsTrue c.are_equivalent_properties.result ↔ Holds c.args.lists.now.ordered a)
    (ap EquivalentRoles c.as_slice-in-EquivalentRoles.ensures ∙ sym c.in-EquivalentRoles.is) c.are_equivalent_properties.ensures

pub returns-in-Transitive : goal.returns-in-Transitive
returns-in-Transitive c =
    subst (λ a. IsTrue c.is_transitive.result ↔ Holds c.args.lists.now.ordered a) (sym c.in-Transitive.is) c.is_transitive.ensures

pub returns-in-Reflexive : goal.returns-in-Reflexive
returns-in-Reflexive c =
    subst (λ a. IfOk c.is_reflexive.result (λ yes. IsTrue yes ↔ Holds c.args.lists.now.ordered a)) (sym c.in-Reflexive.is) c.is_reflexive.ensures

pub returns-in-Domain : goal.returns-in-Domain
returns-in-Domain c =
    subst (λ a. IfOk c.has_domain.result (λ yes. IsTrue yes ↔ Holds c.args.lists.now.ordered a)) (sym c.in-Domain.is) c.has_domain.ensures
