use Rattle.std.proofs.Common.{ap, sym}
use Rattle.status_lines.specs.Lines.{refusal_line}
use Rattle.status_lines.proofs.PutLaws.{put_line}
use Rattle.status_lines.proofs.put.put_refusal.Goals as goal

pub returns-in-Profile-clause-answer : goal.returns-in-Profile-clause-answer
returns-in-Profile-clause-answer g c =
    let seen = g.S.Sink.seen in
    let put = c.put_load_fault-in-Profile in
    put_line (seen c.args.out.now) (seen put.new.out) (refusal_line c.args.status.now) _ put.result put.ensures.answer (ap refusal_line (sym c.in-Profile.is))

pub returns-in-Limit-clause-answer : goal.returns-in-Limit-clause-answer
returns-in-Limit-clause-answer g c =
    let seen = g.S.Sink.seen in
    let put = c.put_load_fault-in-Limit in
    put_line (seen c.args.out.now) (seen put.new.out) (refusal_line c.args.status.now) _ put.result put.ensures.answer (ap refusal_line (sym c.in-Limit.is))

pub returns-in-ReadFault-clause-answer : goal.returns-in-ReadFault-clause-answer
returns-in-ReadFault-clause-answer g c =
    let seen = g.S.Sink.seen in
    let put = c.put_load_fault-in-ReadFault in
    put_line (seen c.args.out.now) (seen put.new.out) (refusal_line c.args.status.now) _ put.result put.ensures.answer (ap refusal_line (sym c.in-ReadFault.is))

pub returns-in-OutOfMemory-clause-answer : goal.returns-in-OutOfMemory-clause-answer
returns-in-OutOfMemory-clause-answer g c =
    let seen = g.S.Sink.seen in
    let put = c.put_load_fault-in-OutOfMemory in
    put_line (seen c.args.out.now) (seen put.new.out) (refusal_line c.args.status.now) _ put.result put.ensures.answer (ap refusal_line (sym c.in-OutOfMemory.is))
