use Rattle.std.specs.Prelude.{Some}
use Rattle.rule_steps.specs.Counted.{IsCounted, IsCountedSince}
use Rattle.rule_steps.proofs.GrowthLaws.{grown_none, grown_more, closed_grown, begun_grown, answered_grown, inclusions_grown}
use Rattle.rule_steps.proofs.laws.growing_takes_nothing_away.Goals as goal

pub returns-clause-none : goal.returns-clause-none
returns-clause-none c = grown_none

pub returns-clause-twice : goal.returns-clause-twice
returns-clause-twice c = grown_more

pub returns-clause-closed : goal.returns-clause-closed
returns-clause-closed c grounds old new p = closed_grown grounds (IsCounted grounds) old new p

pub returns-clause-begun : goal.returns-clause-begun
returns-clause-begun c grounds old new n = begun_grown grounds (IsCounted grounds) old new n

pub returns-clause-answered : goal.returns-clause-answered
returns-clause-answered c grounds old new p = answered_grown grounds (IsCounted grounds) old new p

pub returns-clause-by_inclusions : goal.returns-clause-by_inclusions
returns-clause-by_inclusions c grounds old new first p = inclusions_grown grounds (IsCountedSince (Some first) grounds) old new p
