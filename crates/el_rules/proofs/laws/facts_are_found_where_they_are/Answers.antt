use Rattle.el_rules.proofs.Found.{found, finds}
use Rattle.el_rules.proofs.laws.facts_are_found_where_they_are.Goals as goal

pub returns : goal.returns
returns c facts fact = (found facts fact, finds facts fact)
