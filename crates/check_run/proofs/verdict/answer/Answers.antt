use Rattle.std.proofs.lemmas.Result.{IfOk-weaker}
use Rattle.check_run.specs.Inside.Stages.{IsRefusedAnswer, IsRunAnswer}
use Rattle.check_run.specs.Verdicts.{IsVerdictOn}
use Rattle.check_run.proofs.VerdictLaws.{refused_verdict, run_verdict}
use Rattle.check_run.proofs.verdict.answer.Goals as goal

pub returns-in-Repair : goal.returns-in-Repair
returns-in-Repair c =
    let loaded = c.args.loaded.now in
    let texts = c.args.texts.now in
    IfOk-weaker c.run_answer.result (IsRunAnswer loaded texts) (IsVerdictOn c.args.command.now loaded texts)
    (λ found h. rw c.in-Repair.is (run_verdict loaded texts c.requires c.valid_evidence_shows_the_repair.ensures c.in-Repair.el_part c.in-Repair.names found h)) c.run_answer.ensures

pub returns-in-Refusal : goal.returns-in-Refusal
returns-in-Refusal c =
    let loaded = c.args.loaded.now in
    let texts = c.args.texts.now in
    IfOk-weaker c.refused_answer.result (IsRefusedAnswer loaded texts) (IsVerdictOn c.args.command.now loaded texts)
    (λ found h. rw c.in-Refusal.is (refused_verdict loaded texts c.requires c.valid_refusals_show_incoherence.ensures c.in-Refusal.el_part c.in-Refusal.left c.in-Refusal.right c.in-Refusal.evidence found h)) c.refused_answer.ensures

pub run_answer-requires : goal.run_answer-requires
run_answer-requires c = (c.requires.1, c.requires.2.documents, c.requires.2.table, c.requires.2.made)

pub refused_answer-requires : goal.refused_answer-requires
refused_answer-requires c = (c.requires.1, c.requires.2.documents, c.requires.2.table, c.requires.2.made)
