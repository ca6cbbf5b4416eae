use Rattle.std.proofs.Common.{◌≡◌, ◌∙◌, ◌++◌, List, ℕ, Contains, ap, sym, subst}
use Rattle.std.specs.List.{AllPairs}
use Rattle.std.proofs.lemmas.List.Filters.{dedup_is}
use Rattle.std.proofs.lemmas.List.Kept.{Contains-from_dedup}
use Rattle.std.proofs.lemmas.List.Sorted.{Contains-permutation, IsPermutation-sym}
use Rattle.closed_model.specs.Models.{ComesBefore}
use Rattle.closed_model.specs.Models.{HaveTheSame}
use Rattle.closed_model.proofs.OrderLaws.{same_pair, AllPairs-dedup, Contains-dedup_pair}
use Rattle.closed_model.proofs.lists.ordered_pairs.Goals as goal

pub returns-clause-same : goal.returns-clause-same
returns-clause-same c =
    let is = dedup_is same_pair c.sort_unstable.new.self.items c.dedup.new.self.items c.dedup.ensures.filtered in
    let moved = c.sort_unstable.ensures.permutation in
    let start : c.extend_from_slice.new.self.items ≡ c.args.pairs.now = c.in_ok-extend_from_slice.ensures.items ∙ ap (λ xs. xs ++ c.args.pairs.now) c.in_ok-ordered.ensures.items in
    subst (λ (xs : List (ℕ × ℕ)). HaveTheSame xs c.args.pairs.now) (sym (c.from_vec.ensures ∙ is)) (λ x. (
      λ h. subst (λ (xs : List (ℕ × ℕ)). Contains xs x) start (Contains-permutation _ _ x (IsPermutation-sym _ _ moved) (Contains-from_dedup _ _ x h)),
      λ h. Contains-dedup_pair c.sort_unstable.new.self.items x (Contains-permutation _ _ x moved (subst (λ (xs : List (ℕ × ℕ)). Contains xs x) (sym start) h)),
    ))

pub returns-clause-ascending : goal.returns-clause-ascending
returns-clause-ascending c =
    let is = dedup_is same_pair c.sort_unstable.new.self.items c.dedup.new.self.items c.dedup.ensures.filtered in
    subst (AllPairs ComesBefore) (sym (c.from_vec.ensures ∙ is)) (AllPairs-dedup c.sort_unstable.new.self.items c.sort_unstable.ensures.sorted)
