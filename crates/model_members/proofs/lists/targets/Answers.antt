use Rattle.std.proofs.Common.{ℕ, List, Contains, get_or, take, sym, subst}
use Rattle.std.specs.List.Sorted.{IsStrictlyIncreasing}
use Rattle.std.proofs.lemmas.List.{take_more, take_all}
use Rattle.closed_model.specs.Models.{HaveTheSame}
use Rattle.model_members.specs.Inside.Pairs.{Lead}
use Rattle.model_members.specs.Inside.Sets.{AreListed}
use Rattle.model_members.proofs.ListSteps.{Reached, more_reached, listed_of, if_both}
use Rattle.model_members.proofs.lists.targets.Goals as goal

pub loop-from-preserved : goal.loop-from-preserved
loop-from-preserved c =
    let pairs = c.args.pairs.now in
    let numbers = c.args.numbers.now in
    let index = c.loop-from.from-index in
    subst (λ (done : List ℕ). Reached pairs c.add_targets.new.found.items done) (sym (take_more numbers index 0 c.loop-from-test.true))
    (more_reached pairs c.loop-from.found.items c.add_targets.new.found.items (take index numbers) c.steps_from.result.now (get_or numbers index 0)
    c.loop-from.invariant c.steps_from.ensures c.in_ok-add_targets.ensures)

pub returns : goal.returns
returns c =
    let pairs = c.args.pairs.now in
    let numbers = c.args.numbers.now in
    let found = c.as_slice.result.now in
    let Ends : ℕ → Type 0 = λ y. (x : ℕ) × Contains numbers x × Lead pairs x y in
    if_both (λ ordered. HaveTheSame ordered found) IsStrictlyIncreasing (AreListed Ends) c.ordered_numbers.result
    (λ ordered same up. listed_of Ends ordered found up same
    (subst (λ (done : List ℕ). Reached pairs found done) (take_all c.loop-from.from-index numbers c.loop-from-test.false)
    (subst (λ (found : List ℕ). Reached pairs found (take c.loop-from.from-index numbers)) (sym c.as_slice.ensures.value) c.loop-from.invariant)))
    c.ordered_numbers.ensures.same c.ordered_numbers.ensures.ascending
