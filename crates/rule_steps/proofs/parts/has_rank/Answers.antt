use Rattle.std.proofs.Common.{◌↔◌, Contains, IsTrue, subst, sym}
use Rattle.rule_steps.proofs.SourceLaws.{found_rank}
use Rattle.rule_steps.proofs.parts.has_rank.Goals as goal

pub returns : goal.returns
returns c =
    subst (λ found. IsTrue found ↔ Contains c.args.ranks.now c.args.rank) (sym c.is_ok.ensures.value)
    (found_rank c.args.ranks.now c.args.rank c.binary_search.result c.requires c.binary_search.ensures.position)
