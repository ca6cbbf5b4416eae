use Rattle.std.proofs.Common.{◌≡◌, ◌∙◌, ◌++◌, Contains, ap, sym, subst}
use Rattle.std.specs.List.Sorted.{IsStrictlyIncreasing}
use Rattle.std.proofs.lemmas.List.Filters.{dedup_is}
use Rattle.std.proofs.lemmas.List.Kept.{Contains-dedup_nat, Contains-from_dedup}
use Rattle.std.proofs.lemmas.List.Sorted.{Contains-permutation, IsPermutation-sym}
use Rattle.std.proofs.lemmas.Map.Keys.{IsStrictlyIncreasing-dedup}
use Rattle.closed_model.specs.Models.{HaveTheSame}
use Rattle.closed_model.proofs.lists.ordered_numbers.Goals as goal

pub returns-clause-same : goal.returns-clause-same
returns-clause-same c =
    let is = dedup_is _ _ _ c.dedup.ensures.filtered in
    let moved = c.sort_unstable.ensures.permutation in
    let start : c.extend_from_slice.new.self.items ≡ c.args.numbers.now = c.in_ok-extend_from_slice.ensures.items ∙ ap (λ xs. xs ++ c.args.numbers.now) c.in_ok-ordered.ensures.items in
    subst (λ xs. HaveTheSame xs c.args.numbers.now) (sym c.from_vec.ensures) (λ x. (
      λ h. subst (λ xs. Contains xs x) start (Contains-permutation _ _ x (IsPermutation-sym _ _ moved) (Contains-from_dedup _ _ x (rw is at h))),
      λ h. rw is (Contains-dedup_nat _ x (Contains-permutation _ _ x moved (subst (λ xs. Contains xs x) (sym start) h))),
    ))

pub returns-clause-ascending : goal.returns-clause-ascending
returns-clause-ascending c =
    let is = dedup_is _ _ _ c.dedup.ensures.filtered in
    subst IsStrictlyIncreasing (sym c.from_vec.ensures) (rw is (IsStrictlyIncreasing-dedup _ c.sort_unstable.ensures.sorted))
