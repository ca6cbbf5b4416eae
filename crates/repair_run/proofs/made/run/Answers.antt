use Rattle.status_lines.specs.Runs.{run_over}
use Rattle.repair_run.proofs.MadeLaws.{put_done, put_stop, put_quiet}
use Rattle.repair_run.proofs.made.run.Goals as goal

pub returns-in-Ok-put_summary-clause-done : goal.returns-in-Ok-put_summary-clause-done
returns-in-Ok-put_summary-clause-done g c = λ folder.
    let run = run_over folder folder (g.S.Sink.seen c.args.out.now) (g.S.Sink.seen c.put_summary.new.out) in
    put_done run c.args.size c.args.limits.now c.in-Ok.loaded c.in-Ok.ensures.loaded c.in-Ok-repaired.results c.in-Ok-repaired.ensures.ok
    (rw c.as_bytes.ensures.value at c.in-Ok-put_summary.ensures.got)

pub returns-clause-stop : goal.returns-clause-stop
returns-clause-stop g c = λ folder.
    let run = run_over folder folder (g.S.Sink.seen c.args.out.now) (g.S.Sink.seen c.put_summary.new.out) in
    put_stop run c.args.size c.args.limits.now c.in-Ok.loaded c.in-Ok.ensures.loaded c.in-Ok-repaired.results c.in-Ok-repaired.ensures.ok
    c.in-Err-put_summary.status (rw c.as_bytes.ensures.value at c.in-Err-put_summary.ensures.err)

pub returns-clause-quiet : goal.returns-clause-quiet
returns-clause-quiet g c =
    let seen = g.S.Sink.seen in
    put_quiet (seen c.args.out.now) (seen c.put_summary.new.out) c.in-Ok-repaired.results c.in-Err-put_summary.status
    (rw c.as_bytes.ensures.value at c.in-Err-put_summary.ensures.err)
