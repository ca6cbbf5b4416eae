use Rattle.std.proofs.Common.{ℕ, List, get_or, take, sym, subst}
use Rattle.std.proofs.lemmas.List.{take_more, take_all}
use Rattle.std.proofs.lemmas.Result.{IfOk-weaker}
use Rattle.closed_model.specs.Models.{HaveTheSame}
use Rattle.model_members.proofs.ListSteps.{Joins, more_joins}
use Rattle.model_members.proofs.lists.joined.Goals as goal

pub loop-from-preserved : goal.loop-from-preserved
loop-from-preserved c =
    let pairs = c.args.pairs.now in
    let index = c.loop-from.from-index in
    subst (λ (done : List (ℕ × ℕ)). Joins c.args.steps.now c.add_ends.new.found.items done) (sym (take_more pairs index (0, 0) c.loop-from-test.true))
    (more_joins c.args.steps.now c.loop-from.found.items c.add_ends.new.found.items (take index pairs) c.steps_from.result.now (get_or pairs index (0, 0))
    c.loop-from.invariant c.steps_from.ensures c.in_ok-add_ends.ensures)

pub returns-clause-same : goal.returns-clause-same
returns-clause-same c =
    let steps = c.args.steps.now in
    let found = c.as_slice.result.now in
    let told : Joins steps found c.args.pairs.now =
    subst (λ (done : List (ℕ × ℕ)). Joins steps found done) (take_all c.loop-from.from-index c.args.pairs.now c.loop-from-test.false)
    (subst (λ (found : List (ℕ × ℕ)). Joins steps found (take c.loop-from.from-index c.args.pairs.now)) (sym c.as_slice.ensures.value) c.loop-from.invariant) in
    IfOk-weaker c.ordered_pairs.result (λ ordered. HaveTheSame ordered found) (λ ordered. Joins steps ordered c.args.pairs.now)
    (λ ordered same x y. (
      (λ there. (told x y).0 ((same (x, y)).0 there)),
      (λ joined. (same (x, y)).1 ((told x y).1 joined)),
    ))
    c.ordered_pairs.ensures.same
