use Rattle.rule_steps.proofs.DisjointLaws.{apart_follows}
use Rattle.rule_steps.proofs.disjoint.disjoin.Goals as goal

pub returns-in_default-clause-there : goal.returns-in_default-clause-there
returns-in_default-clause-there c source says = absurd (c.in_default.ensures source says)

pub add-requires : goal.add-requires
add-requires c =
    apart_follows c.args.grounds.now c.args.layers.now c.args.sub.place c.args.other c.args.sub.low c.args.sub.high c.args.high c.in-Some.source c.in-Some.ensures c.requires.at c.requires.other
