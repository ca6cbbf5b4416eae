use Rattle.concept_store.proofs.StandingLaws.{found_where, none_where, members_of_node}
use Rattle.concept_store.proofs.laws.found_nodes_stand_for_expressions.Goals as goal

pub returns-clause-found : goal.returns-clause-found
returns-clause-found c classes properties nodes tree n order = found_where classes properties nodes order tree n

pub returns-clause-none : goal.returns-clause-none
returns-clause-none c classes properties nodes tree order = none_where classes properties nodes order tree

pub returns-clause-members : goal.returns-clause-members
returns-clause-members c classes properties nodes i m expr n x is reads names at =
    members_of_node classes properties nodes i m is reads expr n x names at
