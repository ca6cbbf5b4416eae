use Rattle.std.proofs.Common.{Contains}
use Rattle.el_rules.proofs.More.{gives_more}
use Rattle.el_rules.proofs.laws.more_facts_give_more.Goals as goal

pub returns : goal.returns
returns c nodes axioms more ones twos facts rule fact named one two given =
    gives_more nodes (Contains axioms) (Contains more) (Contains ones) (Contains facts) (Contains twos) (Contains facts) named one two rule fact given
