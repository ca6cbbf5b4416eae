use Rattle.std.proofs.Common.{◌↔◌, IsTrue, Contains, sym, subst}
use Rattle.std.proofs.lemmas.List.Kept.{AllPairs-from_increasing}
use Rattle.derivation.proofs.RankLaws.{found_test}
use Rattle.derivation.proofs.premises.has_rank.Goals as goal

pub returns : goal.returns
returns c =
    subst (λ passed. IsTrue passed ↔ Contains c.args.ranks.now c.args.rank) (sym c.is_ok.ensures.value)
    (found_test c.args.ranks.now c.args.rank c.binary_search.result c.binary_search.ensures.position
    (λ one other. AllPairs-from_increasing c.args.ranks.now c.requires one other 0))
