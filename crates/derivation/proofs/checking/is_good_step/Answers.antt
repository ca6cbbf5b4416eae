use Rattle.std.proofs.Common.{ap}
use Rattle.std.specs.Option.{option_copied}
use Rattle.derivation.proofs.StepLaws.{good_step}
use Rattle.derivation.proofs.checking.is_good_step.Goals as goal

pub returns-then-names_no_more : goal.returns-then-names_no_more
returns-then-names_no_more c =
    good_step c.args.case.now c.args.part c.args.ranks.now c.args.steps.now c.args.count c.args.step.now
    (option_copied c.named_axiom-said.result) c.fact_before-one.result c.fact_before-two.result c.store.result.now.nodes c.gives.result
    (ap (λ s. s.nodes) c.store.ensures.store) c.named_axiom-said.ensures c.fact_before-one.ensures c.fact_before-two.ensures
    (c.names_no_more.ensures.0 c.if-names_no_more.true) c.gives.ensures
