use Rattle.repair_run.proofs.commands.run_of.Goals as goal

pub returns-in-Made-clause-run : goal.returns-in-Made-clause-run
returns-in-Made-clause-run g c = rw c.in-Made.is (c.run_over_made.ensures.run (g.F.Folder.seen c.args.folder.now))
