use Rattle.accuse_core.proofs.JournalLaws.{journal_grows, replayed_grows}
use Rattle.accuse_core.proofs.laws.journals_grow_by_an_event.Goals as goal

pub returns-clause-journal : goal.returns-clause-journal
returns-clause-journal g c = journal_grows (g.F.Family.incoherent c.args.family.now)

pub returns-clause-marks : goal.returns-clause-marks
returns-clause-marks g c = replayed_grows
