use Rattle.std.proofs.Common.{◌≡◌, ℕ, subst}
use Rattle.std.specs.Prelude.{◌↔◌}
use Rattle.model_members.specs.Inside.Pairs.{Lead}
use Rattle.model_members.proofs.PairLaws.{begin_in_order}
use Rattle.model_members.proofs.PairSteps.{of_the_middle}
use Rattle.model_members.proofs.pairs.steps_from.Goals as goal

pub split_below-requires : goal.split_below-requires
split_below-requires c = begin_in_order c.args.pairs.now c.requires

pub returns : goal.returns
returns c =
    let steps = c.split_below-2.result.0.now in
    subst (λ n. (x y : ℕ) → Lead steps x y ↔ ((x ≡ n) × Lead c.args.pairs.now x y)) c.from-limit.ensures
    (of_the_middle c.args.pairs.now c.split_below.result.0.now c.split_below.result.1.now steps c.split_below-2.result.1.now c.from-limit.result
    c.split_below.ensures.whole c.split_below-2.ensures.whole c.split_below.ensures.below c.split_below.ensures.above c.split_below-2.ensures.below c.split_below-2.ensures.above)
