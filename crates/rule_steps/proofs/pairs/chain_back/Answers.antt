use Rattle.std.proofs.Common.{refl}
use Rattle.rule_steps.specs.Growing.{facts_in}
use Rattle.rule_steps.proofs.PairLaws.{chain_joins}
use Rattle.rule_steps.proofs.pairs.chain_back.Goals as goal

pub join_into-requires-clause-joins : goal.join_into-requires-clause-joins
join_into-requires-clause-joins c =
    chain_joins c.args.grounds.now (facts_in c.args.layers.now) c.args.link.place c.args.link.from c.args.join.first c.args.link.role c.args.join.into c.args.link.into c.args.join.source c.requires.at
    (c.requires.joins (c.if-not-counts.ensures.0 refl))
