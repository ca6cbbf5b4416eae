use Rattle.repair_run.proofs.ChoiceLaws.{decided_for}
use Rattle.repair_run.proofs.choosing.decided.Goals as goal

pub returns-clause-ok : goal.returns-clause-ok
returns-clause-ok g c =
    decided_for c.excusing_none_is_incoherence.ensures c.args.loaded.now c.requires.plain c.in-Ok.base.case c.in_ok-book.book
    c.in-Ok.ensures.table.0 c.in_ok-book.ensures.case c.in-Ok.ensures.coherent c.in_ok-book.ensures.decided c.in_ok-book.ensures.repair c.in_ok-book.ensures.shared
