use Rattle.std.proofs.Common.{◌+◌, ◌++◌, [], ◌∷◌, ℕ, List, get_or, take, sym, subst}
use Rattle.std.specs.List.Sorted.{IsStrictlyIncreasing}
use Rattle.std.proofs.lemmas.List.{take_more, take_all}
use Rattle.closed_model.specs.Models.{HaveTheSame}
use Rattle.model_members.specs.Inside.Pairs.{Lead}
use Rattle.model_members.specs.Inside.Sets.{AreListed}
use Rattle.model_members.proofs.ListSteps.{Firsts, more_firsts, listed_of, if_both}
use Rattle.model_members.proofs.lists.begins.Goals as goal

pub loop-from-preserved : goal.loop-from-preserved
loop-from-preserved c =
    let pairs = c.args.pairs.now in
    let index = c.loop-from.from-index in
    let pair = get_or pairs index (0, 0) in
    subst (λ (found : List ℕ). Firsts found (take (index + 1) pairs)) (sym c.in_ok-push.ensures.items)
    (subst (λ (done : List (ℕ × ℕ)). Firsts (c.loop-from.found.items ++ pair.0 ∷ []) done) (sym (take_more pairs index (0, 0) c.loop-from-test.true))
    (more_firsts c.loop-from.found.items (take index pairs) pair c.loop-from.invariant))

pub returns : goal.returns
returns c =
    let found = c.as_slice.result.now in
    if_both (λ ordered. HaveTheSame ordered found) IsStrictlyIncreasing (AreListed (λ x. (y : ℕ) × Lead c.args.pairs.now x y)) c.ordered_numbers.result
    (λ ordered same up. listed_of (λ x. (y : ℕ) × Lead c.args.pairs.now x y) ordered found up same
    (subst (λ (done : List (ℕ × ℕ)). Firsts found done) (take_all c.loop-from.from-index c.args.pairs.now c.loop-from-test.false)
    (subst (λ (found : List ℕ). Firsts found (take c.loop-from.from-index c.args.pairs.now)) (sym c.as_slice.ensures.value) c.loop-from.invariant)))
    c.ordered_numbers.ensures.same c.ordered_numbers.ensures.ascending
