use Rattle.std.proofs.Common.{◌≡◌, ◌⊎◌, ◌+◌, ◌++◌, ◌∷◌, [], ℕ, List, get_or, take, sym, subst}
use Rattle.std.specs.Prelude.{◌↔◌}
use Rattle.std.proofs.lemmas.List.{take_more, take_all}
use Rattle.model_members.specs.Inside.Pairs.{Lead}
use Rattle.model_members.proofs.PairSteps.{more_ends}
use Rattle.model_members.proofs.pairs.add_ends.Goals as goal

-- what was found, and the ends of these steps
abbrev Tells : List (ℕ × ℕ) → ℕ → List (ℕ × ℕ) → List (ℕ × ℕ) → Type 0
Tells start from found done = (x y : ℕ) → Lead found x y ↔ (Lead start x y ⊎ ((x ≡ from) × (z : ℕ) × Lead done z y))

pub loop-to-preserved : goal.loop-to-preserved
loop-to-preserved c =
    let start = c.args.found.now.items in
    let from = c.args.from in
    let steps = c.args.steps.now in
    let index = c.loop-to.to-index in
    let step = get_or steps index (0, 0) in
    subst (λ (found : List (ℕ × ℕ)). Tells start from found (take (index + 1) steps)) (sym c.in_ok-push.ensures.items)
    (subst (λ (done : List (ℕ × ℕ)). Tells start from (c.loop-to.found.items ++ (from, step.1) ∷ []) done) (sym (take_more steps index (0, 0) c.loop-to-test.true))
    (more_ends c.loop-to.found.items start (take index steps) from step c.loop-to.invariant))

pub returns : goal.returns
returns c =
    subst (λ (done : List (ℕ × ℕ)). Tells c.args.found.now.items c.args.from c.loop-to.found.items done) (take_all c.loop-to.to-index c.args.steps.now c.loop-to-test.false) c.loop-to.invariant
