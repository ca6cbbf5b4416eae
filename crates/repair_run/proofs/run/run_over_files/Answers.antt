use Rattle.status_lines.specs.Runs.{run_over}
use Rattle.repair_run.proofs.AnswerLaws.{done_run, refused_run}
use Rattle.repair_run.proofs.LineLaws.{later_run, later_files, refused_output}
use Rattle.repair_run.proofs.run.run_over_files.Goals as goal

pub returns-in-Ok-clause-run : goal.returns-in-Ok-clause-run
returns-in-Ok-clause-run g c =
    let texts = c.texts_have_one_case_or_first_fault.ensures in
    let run = run_over (g.F.Folder.seen c.args.folder.now) (g.F.Folder.seen c.run.new.folder) (g.S.Sink.seen c.args.out.now) (g.S.Sink.seen c.run.new.out) in
    done_run (record { never_both = texts.never_both; one_case = texts.one_case; one_fault = texts.one_fault })
    c.more_axioms_stay_incoherent.ensures run c.args.asked.now c.args.limits.now c.in-Ok.ensures.done

pub returns-in-Err-clause-run : goal.returns-in-Err-clause-run
returns-in-Err-clause-run g c =
    let texts = c.texts_have_one_case_or_first_fault.ensures in
    let asked = c.args.asked.now in
    let limits = c.args.limits.now in
    let s = c.in-Err.status in
    let put = c.refuse.ensures in
    let after = g.S.Sink.seen c.refuse.new.out in
    let run = run_over (g.F.Folder.seen c.args.folder.now) (g.F.Folder.seen c.run.new.folder) (g.S.Sink.seen c.args.out.now) (g.S.Sink.seen c.run.new.out) in
    refused_run (record { never_both = texts.never_both; one_case = texts.one_case; one_fault = texts.one_fault })
    c.more_axioms_stay_incoherent.ensures (record run { output_after = after }) asked limits s c.refuse.result
    (later_run run after asked limits s put.untouched c.in-Err.ensures.stop) (later_files run asked limits after s c.in-Err.ensures.files) put.status

pub returns-in-Err-clause-output : goal.returns-in-Err-clause-output
returns-in-Err-clause-output g c =
    let seen = g.S.Sink.seen in
    refused_output (seen c.args.out.now) (seen c.run.new.out) (seen c.refuse.new.out)
    c.in-Err.status c.refuse.result c.in-Err.ensures.quiet c.refuse.ensures.status c.refuse.ensures.same c.refuse.ensures.output
