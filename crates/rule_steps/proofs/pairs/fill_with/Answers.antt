use Rattle.rule_steps.proofs.PairLaws.{fill_follows}
use Rattle.rule_steps.proofs.pairs.fill_with.Goals as goal

pub add-requires : goal.add-requires
add-requires c =
    fill_follows c.args.grounds.now c.args.layers.now c.args.link.place c.args.filler c.args.link.from c.args.link.role c.args.entry.role c.args.link.into c.args.entry.filler c.args.entry.node
    c.requires.node c.if-entry-link.false c.requires.at c.requires.filler
