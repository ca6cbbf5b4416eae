use Rattle.std.proofs.Common.{◌↔◌, ◌∙◌, IsTrue, sym, subst, ap}
use Rattle.el_logic.specs.declared.types.Axiom.TheVariants.{EquivalentRoles}
use Rattle.el_logic.specs.Meaning.{Holds}
use Rattle.el_logic.proofs.ChainSteps.{to_transitive, from_transitive}
use Rattle.el_logic.proofs.evaluate.holds.Goals as goal

pub returns-in-EquivalentRoles : goal.returns-in-EquivalentRoles
returns-in-EquivalentRoles c =
    subst (λ a. IsTrue c.are_equivalent_properties.result ↔ Holds c.args.i.now a)
    (ap EquivalentRoles c.as_slice-in-EquivalentRoles.ensures ∙ sym c.in-EquivalentRoles.is) c.are_equivalent_properties.ensures

pub returns-in-Transitive : goal.returns-in-Transitive
returns-in-Transitive c =
    subst (λ a. IsTrue c.is_chain_within-in-Transitive.result ↔ Holds c.args.i.now a) (sym c.in-Transitive.is) (
      (λ yes. to_transitive c.args.i.now c.in-Transitive.role (c.is_chain_within-in-Transitive.ensures.0 yes)),
      (λ holds. c.is_chain_within-in-Transitive.ensures.1 (from_transitive c.args.i.now c.in-Transitive.role holds)),
    )

pub returns-in-Domain : goal.returns-in-Domain
returns-in-Domain c =
    subst (λ a. IsTrue c.has_domain.result ↔ Holds c.args.i.now a) (sym c.in-Domain.is) c.has_domain.ensures
