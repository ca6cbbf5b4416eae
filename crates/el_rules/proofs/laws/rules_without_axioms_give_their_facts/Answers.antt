use Rattle.std.proofs.Common.{refl}
use Rattle.fact_table.specs.declared.types.Fact.TheVariants.{Sub, Link}
use Rattle.el_rules.proofs.Alone.{alone}
use Rattle.el_rules.proofs.laws.rules_without_axioms_give_their_facts.Goals as goal

pub returns-clause-left : goal.returns-clause-left
returns-clause-left c = (4, 3, refl, alone (Sub 5 4))

pub returns-clause-right : goal.returns-clause-right
returns-clause-right c = (4, 2, refl, alone (Sub 5 4))

pub returns-clause-both : goal.returns-clause-both
returns-clause-both c = (2, 3, refl, alone (Sub 5 2), alone (Sub 5 3))

pub returns-clause-out : goal.returns-clause-out
returns-clause-out c = (5, refl, alone (Sub 3 5))

pub returns-clause-into : goal.returns-clause-into
returns-clause-into c = (0, 4, 2, refl, alone (Link 3 0 4), alone (Sub 4 2))

pub returns-clause-void : goal.returns-clause-void
returns-clause-void c = (0, 4, refl, alone (Link 3 0 4), alone (Sub 4 1))
