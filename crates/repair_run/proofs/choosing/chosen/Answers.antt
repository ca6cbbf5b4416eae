use Rattle.accuse_core.specs.Marks.{kept_of}
use Rattle.repair_run.proofs.ChoiceLaws.{choice}
use Rattle.repair_run.proofs.choosing.chosen.Goals as goal

pub returns : goal.returns
returns c =
    choice c.args.loaded.now (kept_of c.args.book.now.marks) c.args.book.now.case c.in_ok-rows.rows c.requires.plain c.requires.book.case
    c.in_ok-rows.ensures.keep c.in_ok-rows.ensures.kept c.in_ok-rows.ensures.removed
