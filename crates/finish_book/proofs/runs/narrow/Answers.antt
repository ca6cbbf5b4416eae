use Rattle.std.proofs.Common.{◌+◌, subst}
use Rattle.saturate.specs.Decisions.{IsVerdict}
use Rattle.finish_book.specs.Inside.Runs.{with_run}
use Rattle.finish_book.proofs.RunLemmas.{accepted, rejected}
use Rattle.finish_book.proofs.runs.narrow.Goals as goal

pub returns-in-Yes-clause-run : goal.returns-in-Yes-clause-run
returns-in-Yes-clause-run g c =
    let run = c.args.run.now in
    let count = c.next_length-count.result in
    accepted c.args.book.now run count c.requires.run c.next_length-count.ensures.some c.next_length-count.ensures.within c.in-Yes.table
    (subst (IsVerdict c.args.book.now.case (with_run c.args.book.now (run.known + count))) c.in-Yes.is c.in_ok-table.ensures.verdict)

pub returns-in-No-clause-run : goal.returns-in-No-clause-run
returns-in-No-clause-run g c =
    let run = c.args.run.now in
    let count = c.next_length-count.result in
    rejected c.args.book.now run count c.requires.run c.next_length-count.ensures.some c.next_length-count.ensures.within c.in-No.why
    (subst (IsVerdict c.args.book.now.case (with_run c.args.book.now (run.known + count))) c.in-No.is c.in_ok-table.ensures.verdict)
