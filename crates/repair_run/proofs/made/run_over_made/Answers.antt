use Rattle.std.proofs.Common.{refl}
use Rattle.status_lines.specs.Runs.{run_over}
use Rattle.repair_run.proofs.LineLaws.{later_made, refused_output}
use Rattle.repair_run.proofs.MadeLaws.{made_done, made_refused}
use Rattle.repair_run.proofs.made.run_over_made.Goals as goal

pub returns-in-Ok-clause-run : goal.returns-in-Ok-clause-run
returns-in-Ok-clause-run g c = λ folder.
    let texts = c.texts_have_one_case_or_first_fault.ensures in
    let run = run_over folder folder (g.S.Sink.seen c.args.out.now) (g.S.Sink.seen c.run.new.out) in
    made_done (record { never_both = texts.never_both; one_case = texts.one_case; one_fault = texts.one_fault })
    c.more_axioms_stay_incoherent.ensures run c.args.size c.args.limits.now refl (c.in-Ok.ensures.done folder)

pub returns-in-Err-clause-run : goal.returns-in-Err-clause-run
returns-in-Err-clause-run g c = λ folder.
    let texts = c.texts_have_one_case_or_first_fault.ensures in
    let s = c.in-Err.status in
    let after = g.S.Sink.seen c.refuse.new.out in
    let run = run_over folder folder (g.S.Sink.seen c.args.out.now) (g.S.Sink.seen c.run.new.out) in
    made_refused (record { never_both = texts.never_both; one_case = texts.one_case; one_fault = texts.one_fault })
    c.more_axioms_stay_incoherent.ensures (record run { output_after = after }) c.args.size c.args.limits.now refl s c.refuse.result
    (later_made run after c.args.size c.args.limits.now s c.refuse.ensures.untouched (c.in-Err.ensures.stop folder)) c.refuse.ensures.status

pub returns-in-Err-clause-output : goal.returns-in-Err-clause-output
returns-in-Err-clause-output g c =
    let seen = g.S.Sink.seen in
    refused_output (seen c.args.out.now) (seen c.run.new.out) (seen c.refuse.new.out)
    c.in-Err.status c.refuse.result c.in-Err.ensures.quiet c.refuse.ensures.status c.refuse.ensures.same c.refuse.ensures.output
