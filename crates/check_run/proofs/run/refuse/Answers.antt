use Rattle.std.proofs.Common.{subst}
use Rattle.io_edge.specs.Outside.{PutAnswers}
use Rattle.io_edge.specs.declared.outside.PutAnswer.{PutAnswer}
use Rattle.status_lines.specs.declared.speaker.Speaker.TheVariants as speaker
use Rattle.status_lines.specs.Lines.{load_line}
use Rattle.check_run.proofs.LineLaws.{fault_line_failed, fault_line_whole}
use Rattle.check_run.proofs.run.refuse.Goals as goal

pub returns-in-Done-clause-output : goal.returns-in-Done-clause-output
returns-in-Done-clause-output g c =
    let old = g.S.Sink.seen c.args.out.now in
    let new = g.S.Sink.seen c.put_load_fault.new.out in
    rw c.check_status_of.ensures (fault_line_whole old new c.args.fault
    (subst (λ (a : PutAnswer). PutAnswers old new (load_line speaker.Alodcheck c.args.fault) a) c.in-Done.is c.put_load_fault.ensures.answer))

pub returns-in-Failed-clause-output : goal.returns-in-Failed-clause-output
returns-in-Failed-clause-output g c =
    let old = g.S.Sink.seen c.args.out.now in
    let new = g.S.Sink.seen c.put_load_fault.new.out in
    rw c.check_status_of-in-Failed.ensures (fault_line_failed old new c.args.fault
    (subst (λ (a : PutAnswer). PutAnswers old new (load_line speaker.Alodcheck c.args.fault) a) c.in-Failed.is c.put_load_fault.ensures.answer))
