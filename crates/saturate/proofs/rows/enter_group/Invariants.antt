use Rattle.std.proofs.Common.{◌≡◌, ℕ, ◌<◌, ◌≤◌, Some}
use Rattle.std.specs.Prelude.{slice_get}
use Rattle.fact_table.specs.declared.types.Fact.{Fact}
use Rattle.fact_table.specs.Groups.{group_at}
use Rattle.rule_steps.specs.Growing.{facts_in, HasGrown}
use Rattle.saturate.specs.Inside.Rows.{IsEntered}
use Rattle.saturate.specs.Inside.Saturated.{IsCaughtUp}
use Rattle.saturate.proofs.rows.enter_group.Given as goal

abbrev pub invariant-loop-place : goal.invariant-loop-place
invariant-loop-place l = record {
  grown : HasGrown l.grounds l.fn.layers l.layers;
  caught_up : IsCaughtUp l.grounds l.layers;
  within : l.bound ≤ l.below;
  entered : (k : ℕ) (fact : Fact) → l.bound ≤ k → k < l.below → slice_get (facts_in l.layers) k ≡ Some fact → group_at l.side fact ≡ l.group
      → IsEntered l.grounds l.first (facts_in l.layers) k;
}

abbrev pub decreases-loop-place : goal.decreases-loop-place
decreases-loop-place l = l.bound
