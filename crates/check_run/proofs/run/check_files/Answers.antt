use Rattle.std.proofs.Common.{ap, subst}
use Rattle.std.specs.Prelude.{Err}
use Rattle.status_lines.specs.Runs.{run_over}
use Rattle.command_words.specs.declared.types.CheckWords.{CheckWords}
use Rattle.check_run.specs.Check.{IsChecked}
use Rattle.check_run.proofs.WordLaws.{checked_words, is_usage, one_command}
use Rattle.check_run.proofs.run.check_files.Goals as goal

pub returns-in-Ok-clause-check : goal.returns-in-Ok-clause-check
returns-in-Ok-clause-check g c =
    let run = run_over (g.F.Folder.seen c.args.folder.now) (g.F.Folder.seen c.check.new.folder) (g.S.Sink.seen c.args.out.now) (g.S.Sink.seen c.check.new.out) in
    λ command is. subst (λ (w : CheckWords). IsChecked run w c.args.limits.now c.check.result)
    (one_command c.words_have_one_reading.ensures c.args.words.now c.in-Ok.command command c.in-Ok.ensures.ok is) c.check.ensures.check

pub returns-in-Err-clause-check : goal.returns-in-Err-clause-check
returns-in-Err-clause-check g c =
    let run = run_over (g.F.Folder.seen c.args.folder.now) (g.F.Folder.seen c.args.folder.now) (g.S.Sink.seen c.args.out.now) (g.S.Sink.seen c.refuse_words.new.out) in
    checked_words run c.args.words.now c.args.limits.now c.in-Err.fault c.refuse_words.result (λ usage. c.in-Err.ensures.usage (ap Err usage)) c.refuse_words.ensures.memory

pub returns-in-Err-clause-words : goal.returns-in-Err-clause-words
returns-in-Err-clause-words g c =
    λ is. c.in-Err.ensures.usage (ap Err (is_usage c.in-Err.fault c.refuse_words.result c.refuse_words.ensures.memory is))
