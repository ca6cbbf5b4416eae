use Rattle.std.proofs.Common.{[], ◌∷◌, refl, arith}
use Rattle.concept_store.specs.declared.types.NodeAxiom.TheVariants.{SubClass, Equivalent, Disjoint, Domain}
use Rattle.fact_table.specs.declared.types.Fact.TheVariants.{Sub, Link}
use Rattle.el_rules.proofs.Alone.{alone, first_of_two, second_of_two}
use Rattle.el_rules.proofs.laws.rules_on_classes_give_their_facts.Goals as goal

pub returns-clause-incl : goal.returns-clause-incl
returns-clause-incl c = (2, SubClass 2 3, alone (SubClass 2 3), (refl, refl), alone (Sub 5 2))

pub returns-clause-incl_equal : goal.returns-clause-incl_equal
returns-clause-incl_equal c =
    (2, Equivalent (3 ∷ 2 ∷ []), alone (Equivalent (3 ∷ 2 ∷ [])), (second_of_two 3 2, first_of_two 3 2), alone (Sub 5 2))

pub returns-clause-disj : goal.returns-clause-disj
returns-clause-disj c =
    (2, 3, Disjoint (3 ∷ 2 ∷ []), refl, alone (Disjoint (3 ∷ 2 ∷ [])), (1, 0, (λ same. absurd (omega (arith, same))), refl, refl), alone (Sub 5 2), alone (Sub 5 3))

pub returns-clause-dom : goal.returns-clause-dom
returns-clause-dom c = (0, 3, Domain 0 2, alone (Domain 0 2), (refl, refl), alone (Link 5 0 3))
