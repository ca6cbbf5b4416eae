use Rattle.std.proofs.Common.{refl, sym, ap, subst}
use Rattle.std.specs.Prelude.{Err}
use Rattle.command_words.specs.declared.types.RepairWords.{RepairWords}
use Rattle.status_lines.specs.Runs.{run_over}
use Rattle.status_lines.specs.declared.status.Status.{Status}
use Rattle.repair_run.specs.Run.{IsOrMemory}
use Rattle.repair_run.specs.Commands.{IsRunOf}
use Rattle.repair_run.proofs.WordLaws.{is_usage, one_command, unread_run}
use Rattle.repair_run.proofs.commands.repair.Goals as goal

pub returns-in-Ok-clause-run : goal.returns-in-Ok-clause-run
returns-in-Ok-clause-run g c =
    let run = run_over (g.F.Folder.seen c.args.folder.now) (g.F.Folder.seen c.run_of.new.folder) (g.S.Sink.seen c.args.out.now) (g.S.Sink.seen c.run_of.new.out) in
    λ command is. subst (λ (w : RepairWords). IsRunOf run w c.args.limits.now c.run_of.result)
    (one_command c.words_have_one_reading.ensures c.args.words.now c.in-Ok.command command c.in-Ok.ensures.ok is) c.run_of.ensures.run

pub returns-in-Err-clause-run : goal.returns-in-Err-clause-run
returns-in-Err-clause-run g c =
    let texts = c.texts_have_one_case_or_first_fault.ensures in
    let run = run_over (g.F.Folder.seen c.args.folder.now) (g.F.Folder.seen c.args.folder.now) (g.S.Sink.seen c.args.out.now) (g.S.Sink.seen c.refuse.new.out) in
    unread_run (record { never_both = texts.never_both; one_case = texts.one_case; one_fault = texts.one_fault })
    c.more_axioms_stay_incoherent.ensures run refl c.args.limits.now c.args.words.now c.in-Err.fault c.refuse.result
    (λ usage. c.in-Err.ensures.usage (ap Err usage)) (subst (λ (s : Status). IsOrMemory s c.refuse.result) c.answer_to.ensures c.refuse.ensures.status)

pub returns-in-Err-clause-words : goal.returns-in-Err-clause-words
returns-in-Err-clause-words g c =
    λ is. c.in-Err.ensures.usage (ap Err (is_usage c.in-Err.fault c.refuse.result (subst (λ (s : Status). IsOrMemory s c.refuse.result) c.answer_to.ensures c.refuse.ensures.status) is))
