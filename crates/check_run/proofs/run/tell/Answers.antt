use Rattle.std.proofs.Common.{subst}
use Rattle.std.specs.Prelude.{string_bytes}
use Rattle.io_edge.specs.Outside.{PutAnswers}
use Rattle.io_edge.specs.declared.outside.PutAnswer.{PutAnswer}
use Rattle.check_run.proofs.LineLaws.{told_memory, told_whole}
use Rattle.check_run.proofs.run.tell.Goals as goal

pub returns-in-Done : goal.returns-in-Done
returns-in-Done g c =
    let old = g.S.Sink.seen c.args.out.now in
    let new = g.S.Sink.seen c.put.new.self in
    let line = string_bytes c.args.verdict.now.line in
    rw c.verdict_status.ensures (told_whole old new c.args.verdict.now.item line
    (subst (λ (a : PutAnswer). PutAnswers old new line a) c.in-Done.is (rw c.as_bytes.ensures.value at c.put.ensures.answer)))

pub returns-in-OutOfMemory : goal.returns-in-OutOfMemory
returns-in-OutOfMemory g c =
    let old = g.S.Sink.seen c.args.out.now in
    let mid = g.S.Sink.seen c.put.new.self in
    let line = string_bytes c.args.verdict.now.line in
    told_memory old mid (g.S.Sink.seen c.refuse.new.out) c.args.verdict.now.item line c.refuse.result
    (subst (λ (a : PutAnswer). PutAnswers old mid c.as_bytes.result.now a) c.in-OutOfMemory.is c.put.ensures.answer) c.refuse.ensures.status c.refuse.ensures.output
