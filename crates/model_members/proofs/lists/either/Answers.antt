use Rattle.std.proofs.Common.{◌≡◌, ◌∙◌, ◌⊎◌, ◌++◌, ℕ, List, Contains, ap, sym, subst}
use Rattle.std.specs.Prelude.{◌↔◌}
use Rattle.std.specs.List.Sorted.{IsStrictlyIncreasing}
use Rattle.closed_model.specs.Models.{HaveTheSame}
use Rattle.model_members.specs.Inside.Sets.{AreListed}
use Rattle.model_members.proofs.ListSteps.{in_either, listed_of, if_both}
use Rattle.model_members.proofs.lists.either.Goals as goal

pub returns : goal.returns
returns c =
    let numbers = c.args.numbers.now in
    let others = c.args.others.now in
    let all = c.as_slice.result.now in
    let is : all ≡ numbers ++ others = c.as_slice.ensures.value ∙ c.in_ok-extend_from_slice.ensures.items ∙ ap (λ xs. xs ++ others) c.in_ok-all.ensures.items in
    if_both (λ ordered. HaveTheSame ordered all) IsStrictlyIncreasing (AreListed (λ x. Contains numbers x ⊎ Contains others x)) c.ordered_numbers.result
    (λ ordered same up. listed_of (λ x. Contains numbers x ⊎ Contains others x) ordered all up same
    (subst (λ (xs : List ℕ). (x : ℕ) → Contains xs x ↔ (Contains numbers x ⊎ Contains others x)) (sym is) (in_either numbers others)))
    c.ordered_numbers.ensures.same c.ordered_numbers.ensures.ascending
