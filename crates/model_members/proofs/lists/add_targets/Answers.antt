use Rattle.std.proofs.Common.{◌+◌, ◌++◌, ◌∷◌, [], ℕ, List, get_or, take, sym, subst}
use Rattle.std.proofs.lemmas.List.{take_more, take_all}
use Rattle.model_members.proofs.ListSteps.{Seconds, more_seconds}
use Rattle.model_members.proofs.lists.add_targets.Goals as goal

pub loop-to-preserved : goal.loop-to-preserved
loop-to-preserved c =
    let start = c.args.found.now.items in
    let steps = c.args.steps.now in
    let index = c.loop-to.to-index in
    let step = get_or steps index (0, 0) in
    subst (λ (found : List ℕ). Seconds start found (take (index + 1) steps)) (sym c.in_ok-push.ensures.items)
    (subst (λ (done : List (ℕ × ℕ)). Seconds start (c.loop-to.found.items ++ step.1 ∷ []) done) (sym (take_more steps index (0, 0) c.loop-to-test.true))
    (more_seconds start c.loop-to.found.items (take index steps) step c.loop-to.invariant))

pub returns : goal.returns
returns c =
    subst (λ (done : List (ℕ × ℕ)). Seconds c.args.found.now.items c.loop-to.found.items done) (take_all c.loop-to.to-index c.args.steps.now c.loop-to-test.false) c.loop-to.invariant
