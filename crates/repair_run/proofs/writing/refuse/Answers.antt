use Rattle.std.proofs.Common.{rules}
use Rattle.repair_run.proofs.RunLaws.{line_whole}
use Rattle.repair_run.proofs.writing.refuse.Goals as goal

pub returns-in-Done-clause-output : goal.returns-in-Done-clause-output
returns-in-Done-clause-output g c = line_whole (g.S.Sink.seen c.args.out.now) (g.S.Sink.seen c.put_refusal.new.out) c.args.status (search rules)
