use Rattle.check_run.proofs.ReadLaws.{stop_is_fault, text_is_fault}
use Rattle.check_run.proofs.verdict.judged.Goals as goal

pub returns-in-Err-clause-fault : goal.returns-in-Err-clause-fault
returns-in-Err-clause-fault g c =
    let seen = g.F.Folder.seen in
    stop_is_fault (seen c.args.folder.now) (seen c.read_texts.new.folder) c.args.command.now c.args.limits.now c.in-Err.fault c.in-Err.ensures.fault

pub returns-in-Err-case_of-clause-fault : goal.returns-in-Err-case_of-clause-fault
returns-in-Err-case_of-clause-fault g c =
    let seen = g.F.Folder.seen in
    text_is_fault (seen c.args.folder.now) (seen c.read_texts.new.folder) c.args.command.now c.args.limits.now c.in-Ok.texts c.in-Ok.ensures.read
    c.in-Err-case_of.fault c.in-Err-case_of.ensures.fault

pub verdict_on-requires : goal.verdict_on-requires
verdict_on-requires g c = (_, _, c.in-Ok-case_of.ensures.loaded)

pub returns-in-Ok-verdict_on-clause-judged : goal.returns-in-Ok-verdict_on-clause-judged
returns-in-Ok-verdict_on-clause-judged g c = record {
  texts = c.in-Ok.texts;
  loaded = c.in-Ok-case_of.loaded;
  read = record { files = c.in-Ok.ensures.read; case = c.in-Ok-case_of.ensures.loaded };
  item = c.in-Ok-verdict_on.ensures.item;
  line = c.in-Ok-verdict_on.ensures.line;
}
