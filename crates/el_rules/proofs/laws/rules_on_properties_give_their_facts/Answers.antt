use Rattle.std.proofs.Common.{[], ◌∷◌, inl, inr, refl, rules}
use Rattle.concept_store.specs.declared.types.NodeAxiom.TheVariants.{SubRole, EquivalentRoles, Transitive, Reflexive}
use Rattle.fact_table.specs.declared.types.Fact.TheVariants.{Link}
use Rattle.el_rules.proofs.Alone.{alone, first_of_two, second_of_two}
use Rattle.el_rules.proofs.laws.rules_on_properties_give_their_facts.Goals as goal

pub returns-clause-role : goal.returns-clause-role
returns-clause-role c = (0, SubRole (0 ∷ []) 1 4, alone (SubRole (0 ∷ []) 1 4), (refl, refl), alone (Link 5 0 3))

pub returns-clause-role_equal : goal.returns-clause-role_equal
returns-clause-role_equal c =
    (0, EquivalentRoles (1 ∷ 0 ∷ []), alone (EquivalentRoles (1 ∷ 0 ∷ [])), (second_of_two 1 0, first_of_two 1 0), alone (Link 5 0 3))

pub returns-clause-transitive : goal.returns-clause-transitive
returns-clause-transitive c =
    (0, 0, 3, Transitive 0, alone (Transitive 0), (refl, refl, refl), alone (Link 5 0 3), alone (Link 3 0 2))

pub returns-clause-two : goal.returns-clause-two
returns-clause-two c =
    (0, 1, 3, SubRole (0 ∷ 1 ∷ []) 3 4, alone (SubRole (0 ∷ 1 ∷ []) 3 4), (refl, refl, refl), alone (Link 5 0 3), alone (Link 3 1 2))

pub returns-clause-part : goal.returns-clause-part
returns-clause-part c =
    (0, 1, 3, SubRole (0 ∷ 1 ∷ 2 ∷ []) 3 4, alone (SubRole (0 ∷ 1 ∷ 2 ∷ []) 3 4), inl (refl, refl, refl), alone (Link 5 0 3), alone (Link 3 1 2))

pub returns-clause-last : goal.returns-clause-last
returns-clause-last c =
    (4, 2, 3, SubRole (0 ∷ 1 ∷ 2 ∷ []) 3 4, alone (SubRole (0 ∷ 1 ∷ 2 ∷ []) 3 4), inr (refl, refl, refl), alone (Link 5 4 3), alone (Link 3 2 2))

pub returns-clause-refl : goal.returns-clause-refl
returns-clause-refl c = (Reflexive 0, alone (Reflexive 0), refl, search rules, refl)
