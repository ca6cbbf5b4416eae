use Rattle.std.proofs.Common.{◌∙◌, ap, sym}
use Rattle.status_lines.specs.Lines.{load_line}
use Rattle.status_lines.proofs.PutLaws.{put_line}
use Rattle.status_lines.proofs.put.put_load_fault.Goals as goal

pub returns-in-ReadFault-clause-answer : goal.returns-in-ReadFault-clause-answer
returns-in-ReadFault-clause-answer g c =
    let seen = g.S.Sink.seen in
    put_line (seen c.args.out.now) (seen c.put.new.self) (load_line c.args.speaker c.args.fault) c.cannot_read.result.now c.put.result c.put.ensures.answer
    (c.cannot_read.ensures ∙ ap (load_line c.args.speaker) (sym c.in-ReadFault.is))

pub returns-in-OutOfMemory-clause-answer : goal.returns-in-OutOfMemory-clause-answer
returns-in-OutOfMemory-clause-answer g c =
    let seen = g.S.Sink.seen in
    put_line (seen c.args.out.now) (seen c.put-in-OutOfMemory.new.self) (load_line c.args.speaker c.args.fault) c.out_of_memory.result.now c.put-in-OutOfMemory.result c.put-in-OutOfMemory.ensures.answer
    (c.out_of_memory.ensures ∙ ap (load_line c.args.speaker) (sym c.in-OutOfMemory.is))
