use Rattle.std.proofs.Common.{Contains}
use Rattle.std.proofs.lemmas.List.Elements.{All-contains}
use Rattle.concept_store.specs.Reading.{HoldsIn}
use Rattle.fact_table.specs.declared.types.Fact.TheVariants.{Sub}
use Rattle.el_rules.specs.Closing.{HasRole, said_by}
use Rattle.el_rules.proofs.Found.{not_there}
use Rattle.el_rules.proofs.Closed.{all_at, reading, holds, element_of}
use Rattle.el_rules.proofs.Sound.{held_at}
use Rattle.el_rules.proofs.laws.closed_facts_have_a_model.Goals as goal

pub returns-clause-reading : goal.returns-clause-reading
returns-clause-reading c nodes axioms facts are closed = reading nodes (Contains axioms) facts closed are

pub returns-clause-holds : goal.returns-clause-holds
returns-clause-holds c nodes axioms facts are chained closed =
    all_at (HoldsIn (said_by nodes facts)) axioms
    (λ k said at. holds nodes (Contains axioms) facts closed said
    (All-contains HasRole axioms said chained (held_at axioms k said at)) (held_at axioms k said at))

pub returns-clause-members : goal.returns-clause-members
returns-clause-members c nodes axioms facts node closed within absent =
    element_of nodes (Contains axioms) facts closed node within (not_there facts (Sub node 1) absent)
