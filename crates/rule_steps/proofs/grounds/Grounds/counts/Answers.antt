use Rattle.std.proofs.Common.{◌↔◌, Contains, IsTrue, ap, subst, sym}
use Rattle.fact_table.specs.declared.types.Source.{Source}
use Rattle.rule_steps.specs.Counted.{GroundsView, IsCounting}
use Rattle.rule_steps.proofs.SourceLaws.{row_counts}
use Rattle.rule_steps.proofs.grounds.Grounds.counts.Goals as goal

pub returns-in-Row : goal.returns-in-Row
returns-in-Row c =
    subst (λ (source : Source). IsTrue c.has_rank.result ↔ IsCounting c.args.self.now source) (sym c.in-Row.is)
    (row_counts c.args.self.now.part c.args.self.now.ranks c.in-Row.rank c.in-Row.number c.has_rank.result
    (subst (λ ranks. IsTrue c.has_rank.result ↔ Contains ranks c.in-Row.rank) (ap (λ (view : GroundsView). view.ranks) c.self.view_is) c.has_rank.ensures))
