use Rattle.repair_run.proofs.ChoiceLaws.{loaded_is_plain, short_file}
use Rattle.repair_run.proofs.RunLaws.{file_stops}
use Rattle.repair_run.proofs.loading.loaded.Goals as goal

pub returns-in-Ok-clause-plain : goal.returns-in-Ok-clause-plain
returns-in-Ok-clause-plain g c =
    let read = c.in-Ok.ensures.loaded in
    let from = read.from_texts in
    let limits = c.args.limits.now in
    loaded_is_plain c.ranking_has_each_row_once.ensures.count limits from.documents from.table c.in-Ok.loaded from.made
    (c.runs_are_tellable.ensures read.texts c.args.asked.now.mode limits (short_file limits.file_bytes _ c.requires.bytes read.files.left.0)
    (short_file limits.file_bytes _ c.requires.bytes read.files.right.0) from)

pub returns-in-Err-clause-stop : goal.returns-in-Err-clause-stop
returns-in-Err-clause-stop g c =
    let seen = g.F.Folder.seen in
    rw c.status_of.ensures (file_stops (seen c.args.folder.now) (seen c.load.new.folder) c.args.asked.now c.args.limits.now c.in-Err.fault c.in-Err.ensures.fault c.in-Err.ensures.profile)
