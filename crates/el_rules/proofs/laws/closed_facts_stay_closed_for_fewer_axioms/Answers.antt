use Rattle.std.proofs.Common.{Contains}
use Rattle.el_rules.proofs.More.{gives_more}
use Rattle.el_rules.proofs.laws.closed_facts_stay_closed_for_fewer_axioms.Goals as goal

pub returns : goal.returns
returns c nodes axioms more facts named closed rule fact given =
    closed rule fact (gives_more nodes (Contains axioms) (Contains more) (Contains facts) (Contains facts) (Contains facts) (Contains facts)
    named (λ one held. held) (λ two held. held) rule fact given)
