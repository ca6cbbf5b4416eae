use Rattle.std.specs.Prelude.{string_bytes}
use Rattle.status_lines.specs.Runs.{run_over}
use Rattle.check_run.proofs.AnswerLaws.{checked_fault, checked_verdict}
use Rattle.check_run.proofs.LineLaws.{told_stands}
use Rattle.check_run.proofs.run.check.Goals as goal

pub returns-in-Ok-clause-check : goal.returns-in-Ok-clause-check
returns-in-Ok-clause-check g c =
    let texts = c.texts_have_one_case_or_first_fault.ensures in
    let run = run_over (g.F.Folder.seen c.args.folder.now) (g.F.Folder.seen c.judged.new.folder) (g.S.Sink.seen c.args.out.now) (g.S.Sink.seen c.tell.new.out) in
    checked_verdict (record { never_both = texts.never_both; one_case = texts.one_case; one_fault = texts.one_fault })
    c.evidence_has_one_answer.ensures c.derivations_have_one_answer.ensures run c.args.command.now c.args.limits.now c.in-Ok.verdict c.in-Ok.ensures.judged c.tell.result c.tell.ensures

pub returns-in-Ok-clause-output : goal.returns-in-Ok-clause-output
returns-in-Ok-clause-output g c =
    let seen = g.S.Sink.seen in
    told_stands (seen c.args.out.now) (seen c.tell.new.out) c.in-Ok.verdict.item (string_bytes c.in-Ok.verdict.line) c.tell.result c.tell.ensures

pub returns-in-Err-clause-check : goal.returns-in-Err-clause-check
returns-in-Err-clause-check g c =
    let texts = c.texts_have_one_case_or_first_fault.ensures in
    let run = run_over (g.F.Folder.seen c.args.folder.now) (g.F.Folder.seen c.judged.new.folder) (g.S.Sink.seen c.args.out.now) (g.S.Sink.seen c.refuse.new.out) in
    checked_fault (record { never_both = texts.never_both; one_case = texts.one_case; one_fault = texts.one_fault })
    c.evidence_has_one_answer.ensures c.derivations_have_one_answer.ensures run c.args.command.now c.args.limits.now c.in-Err.fault c.in-Err.ensures.fault c.refuse.result c.refuse.ensures.status
