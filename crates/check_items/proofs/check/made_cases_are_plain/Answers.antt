use Rattle.check_items.proofs.CheckLaws.{made_is_plain}
use Rattle.check_items.proofs.check.made_cases_are_plain.Goals as goal

pub returns : goal.returns
returns c =
    made_is_plain c.ranking_has_each_row_once.ensures.count c.ranking_has_each_row_once.ensures.once c.requires.0 c.requires.1 c.requires.2 c.args.loaded.now c.requires.3
