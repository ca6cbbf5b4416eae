use Rattle.std.proofs.Common.{◌≡◌}
use Rattle.std.specs.Prelude.{Some}
use Rattle.repair_run.specs.Inside.Stops.{written_of}
use Rattle.status_lines.specs.Runs.{run_over}
use Rattle.repair_run.proofs.RunLaws.{later_told, from_first, refused_from_first, refused_stop, refused_files, done, write_stop, write_files, write_quiet}
use Rattle.repair_run.proofs.run.run.Goals as goal

pub returns-in-Err-repaired-clause-stop : goal.returns-in-Err-repaired-clause-stop
returns-in-Err-repaired-clause-stop g c =
    let asked = c.args.asked.now in
    let seen = g.F.Folder.seen in
    let run = run_over (g.F.Folder.seen c.args.folder.now) (g.F.Folder.seen c.refused.new.folder) (g.S.Sink.seen c.args.out.now) (g.S.Sink.seen c.args.out.now) in
    refused_stop run asked c.args.limits.now c.in-Ok.loaded c.in-Ok.ensures.loaded c.refused.result
    (refused_from_first (seen c.args.folder.now) (seen c.loaded.new.folder) (seen c.refused.new.folder) c.in-Ok.loaded asked.names.evidence c.in-Ok.ensures.later c.in-Ok.ensures.files c.refused.result c.refused.ensures)

pub returns-in-Err-repaired-clause-files : goal.returns-in-Err-repaired-clause-files
returns-in-Err-repaired-clause-files g c =
    let asked = c.args.asked.now in
    let seen = g.F.Folder.seen in
    let run = run_over (g.F.Folder.seen c.args.folder.now) (g.F.Folder.seen c.refused.new.folder) (g.S.Sink.seen c.args.out.now) (g.S.Sink.seen c.args.out.now) in
    refused_files run asked c.args.limits.now c.in-Ok.loaded c.in-Ok.ensures.loaded c.refused.result
    (refused_from_first (seen c.args.folder.now) (seen c.loaded.new.folder) (seen c.refused.new.folder) c.in-Ok.loaded asked.names.evidence c.in-Ok.ensures.later c.in-Ok.ensures.files c.refused.result c.refused.ensures)

pub returns-in-Ok-write_results-clause-done : goal.returns-in-Ok-write_results-clause-done
returns-in-Ok-write_results-clause-done g c =
    let asked = c.args.asked.now in
    let results = c.in-Ok-repaired.results in
    let middle = g.F.Folder.seen c.loaded.new.folder in
    let run = run_over (g.F.Folder.seen c.args.folder.now) (g.F.Folder.seen c.write_results.new.folder) (g.S.Sink.seen c.args.out.now) (g.S.Sink.seen c.write_results.new.out) in
    done run asked c.args.limits.now c.in-Ok.loaded c.in-Ok.ensures.loaded results c.in-Ok-repaired.ensures.ok
    (later_told run.folder.files middle.files _ c.in-Ok.ensures.files c.in-Ok-write_results.ensures.files) c.in-Ok-write_results.ensures.got

pub returns-clause-stop : goal.returns-clause-stop
returns-clause-stop g c =
    let asked = c.args.asked.now in
    let results = c.in-Ok-repaired.results in
    let s = c.in-Err-write_results.status in
    let run = run_over (g.F.Folder.seen c.args.folder.now) (g.F.Folder.seen c.write_results.new.folder) (g.S.Sink.seen c.args.out.now) (g.S.Sink.seen c.write_results.new.out) in
    write_stop run asked c.args.limits.now c.in-Ok.loaded c.in-Ok.ensures.loaded results c.in-Ok-repaired.ensures.ok s
    (from_first run (g.F.Folder.seen c.loaded.new.folder) asked.names (written_of results) c.in-Ok.ensures.later c.in-Ok.ensures.files s c.in-Err-write_results.ensures.err)

pub returns-clause-files : goal.returns-clause-files
returns-clause-files g c =
    let asked = c.args.asked.now in
    let results = c.in-Ok-repaired.results in
    let s = c.in-Err-write_results.status in
    let run = run_over (g.F.Folder.seen c.args.folder.now) (g.F.Folder.seen c.write_results.new.folder) (g.S.Sink.seen c.args.out.now) (g.S.Sink.seen c.write_results.new.out) in
    write_files run asked c.args.limits.now c.in-Ok.loaded c.in-Ok.ensures.loaded results c.in-Ok-repaired.ensures.ok s
    (from_first run (g.F.Folder.seen c.loaded.new.folder) asked.names (written_of results) c.in-Ok.ensures.later c.in-Ok.ensures.files s c.in-Err-write_results.ensures.err)

pub returns-clause-quiet : goal.returns-clause-quiet
returns-clause-quiet g c =
    let asked = c.args.asked.now in
    let results = c.in-Ok-repaired.results in
    let s = c.in-Err-write_results.status in
    let run = run_over (g.F.Folder.seen c.args.folder.now) (g.F.Folder.seen c.write_results.new.folder) (g.S.Sink.seen c.args.out.now) (g.S.Sink.seen c.write_results.new.out) in
    write_quiet run asked c.args.limits.now c.in-Ok.loaded c.in-Ok.ensures.loaded results c.in-Ok-repaired.ensures.ok s
    (from_first run (g.F.Folder.seen c.loaded.new.folder) asked.names (written_of results) c.in-Ok.ensures.later c.in-Ok.ensures.files s c.in-Err-write_results.ensures.err)
