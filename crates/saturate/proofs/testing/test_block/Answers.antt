use Rattle.std.proofs.Common.{◌∙◌, List, ℕ, ◌++◌, IfOk, ap, sym, subst}
use Rattle.std.proofs.lemmas.List.{append-nil}
use Rattle.saturate.specs.Decisions.{IsVerdict}
use Rattle.saturate.specs.Inside.Saturated.{AddsRanks}
use Rattle.saturate.proofs.RankLaws.{none_first, ranks_added}
use Rattle.saturate.proofs.testing.test_block.Goals as goal

pub returns-in-None : goal.returns-in-None
returns-in-None c =
    let olds = c.args.snapshot.now.ranks in
    let more = c.args.ranks.now in
    subst (λ (all : List ℕ). IfOk c.unchanged.result (IsVerdict c.args.snapshot.now.case all))
    (sym (ap (λ (xs : List ℕ). olds ++ xs) (none_first more c.in-None.ensures) ∙ append-nil olds)) c.unchanged.ensures

pub test_from-requires-clause-added : goal.test_from-requires-clause-added
test_from-requires-clause-added c =
    let olds = c.args.snapshot.now.ranks in
    let more = c.args.ranks.now in
    let all = c.as_slice.ensures.value ∙ c.in_ok-all-in-Some.ensures ∙ ap (λ (xs : List ℕ). xs ++ more) c.ranks.ensures in
    subst (AddsRanks olds c.in-Some.first more) (sym all) (ranks_added olds more c.in-Some.first c.requires.ascending c.in-Some.ensures c.requires.after)
