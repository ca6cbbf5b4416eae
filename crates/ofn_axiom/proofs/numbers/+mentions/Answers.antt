use Rattle.std.proofs.Common.{ap, ◌∙◌}
use Rattle.ofn_axiom.specs.Numbers.{mentions}
use Rattle.ofn_axiom.proofs.NumberLaws.{none_after, mentions_top, mentions_bottom}
use Rattle.ofn_axiom.proofs.numbers.+mentions.Goals as goal

pub mention-returns-in-Top : goal.mention-returns-in-Top
mention-returns-in-Top t c = none_after c.args.out.now (mentions c.args.class.now) (ap mentions c.in-Top.is ∙ mentions_top)

pub mention-returns-in-Bottom : goal.mention-returns-in-Bottom
mention-returns-in-Bottom t c = none_after c.args.out.now (mentions c.args.class.now) (ap mentions c.in-Bottom.is ∙ mentions_bottom)
