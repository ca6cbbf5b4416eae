use Rattle.std.proofs.Common.{◌≡◌, ℕ, Some, length, slice_get}
use Rattle.derivation.specs.declared.types.Step.{Step}
use Rattle.derivation.specs.Traces.{TellsPlace}
use Rattle.derivation.proofs.tracing.trace.Given as goal

abbrev pub invariant-loop-place : goal.invariant-loop-place
invariant-loop-place g l = record {
  count : length l.steps ≡ l.place-index;
  each : (k : ℕ) (step : Step) → slice_get l.steps k ≡ Some step
      → TellsPlace (g.F.FactsByPlace.facts l.facts) l.place-items k step;
}
