use Rattle.std.proofs.Common.{◌+◌, ℕ, List, get_or, take, sym, subst}
use Rattle.std.proofs.lemmas.List.{take_more, take_all}
use Rattle.std.proofs.lemmas.Result.{IfOk-weaker}
use Rattle.closed_model.specs.Models.{HaveTheSame}
use Rattle.model_members.specs.Lists.{AreTurned}
use Rattle.model_members.proofs.KeyLaws.{more_turned, turned_none}
use Rattle.model_members.proofs.PropertyLaws.{through}
use Rattle.model_members.proofs.model.turned_round.Goals as goal

pub loop-from-init : goal.loop-from-init
loop-from-init c = subst (λ (turned : List (ℕ × ℕ)). AreTurned turned (take 0 c.args.pairs.now)) (sym c.in_ok-turned.ensures.items) turned_none

pub loop-from-preserved : goal.loop-from-preserved
loop-from-preserved c =
    let pairs = c.args.pairs.now in
    let index = c.loop-from.from-index in
    subst (λ (turned : List (ℕ × ℕ)). AreTurned turned (take (index + 1) pairs)) (sym c.in_ok-push.ensures.items)
    (subst (AreTurned _) (sym (take_more pairs index (0, 0) c.loop-from-test.true))
    (more_turned c.loop-from.turned.items (take index pairs) (get_or pairs index (0, 0)) c.loop-from.invariant))

pub returns-clause-same : goal.returns-clause-same
returns-clause-same c =
    let found = c.as_slice.result.now in
    let told : AreTurned found c.args.pairs.now =
    subst (AreTurned found) (take_all c.loop-from.from-index c.args.pairs.now c.loop-from-test.false)
    (subst (λ (turned : List (ℕ × ℕ)). AreTurned turned (take c.loop-from.from-index c.args.pairs.now)) (sym c.as_slice.ensures.value) c.loop-from.invariant) in
    IfOk-weaker c.ordered_pairs.result (λ ordered. HaveTheSame ordered found) (λ ordered. AreTurned ordered c.args.pairs.now)
    (λ ordered same x y. through (same (y, x)) (told x y)) c.ordered_pairs.ensures.same
