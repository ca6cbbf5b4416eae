use Rattle.std.proofs.Common.{◌+◌, ◌-◌, length}
use Rattle.derivation.proofs.Gathering.{IsGathered}
use Rattle.derivation.proofs.tracing.needed_places.Given as goal

abbrev pub invariant-loop-place : goal.invariant-loop-place
invariant-loop-place g l = IsGathered (g.F.FactsByPlace.facts l.facts) l.goal l.places.items l.pending

abbrev pub decreases-loop-place : goal.decreases-loop-place
decreases-loop-place g l = l.goal + 1 - length l.places.items
