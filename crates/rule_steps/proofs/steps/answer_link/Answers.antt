use Rattle.std.proofs.lemmas.Result.{on_ok_weaker}
use Rattle.fact_table.specs.declared.types.Fact.TheVariants.{Link}
use Rattle.rule_steps.specs.Counted.{nodes_of}
use Rattle.rule_steps.specs.Growing.{facts_in}
use Rattle.rule_steps.specs.Answering.{IsAt}
use Rattle.rule_steps.proofs.GrowthLaws.{at_grown, grown_more}
use Rattle.rule_steps.specs.Counted.{IsCounted}
use Rattle.rule_steps.specs.Growing.{HasGrown}
use Rattle.fact_table.specs.declared.types.Rule.{Rule}
use Rattle.rule_steps.proofs.GrowthLaws.{first_grown}
use Rattle.rule_steps.proofs.AnswerLaws.{link_answered, any_source}
use Rattle.rule_steps.proofs.steps.answer_link.Goals as goal

pub lead_from_domain-requires : goal.lead_from_domain-requires
lead_from_domain-requires c =
    let g01 : HasGrown c.args.grounds.now c.args.layers.now c.include_role.new.layers = c.include_role.ensures.grown in
    at_grown c.args.grounds.now c.args.layers.now c.include_role.new.layers c.args.link.place (Link c.args.link.from c.args.link.role c.args.link.into) g01 c.requires

pub void_from-requires : goal.void_from-requires
void_from-requires c =
    let g01 : HasGrown c.args.grounds.now c.args.layers.now c.include_role.new.layers = c.include_role.ensures.grown in
    let g02 : HasGrown c.args.grounds.now c.args.layers.now c.lead_from_domain.new.layers = grown_more c.args.grounds.now c.args.layers.now c.include_role.new.layers c.lead_from_domain.new.layers g01 c.lead_from_domain.ensures.grown in
    at_grown c.args.grounds.now c.args.layers.now c.lead_from_domain.new.layers c.args.link.place (Link c.args.link.from c.args.link.role c.args.link.into) g02 c.requires

pub returns-in_err-void_from-clause-grown : goal.returns-in_err-void_from-clause-grown
returns-in_err-void_from-clause-grown c =
    let g01 : HasGrown c.args.grounds.now c.args.layers.now c.include_role.new.layers = c.include_role.ensures.grown in
    let g02 : HasGrown c.args.grounds.now c.args.layers.now c.lead_from_domain.new.layers = grown_more c.args.grounds.now c.args.layers.now c.include_role.new.layers c.lead_from_domain.new.layers g01 c.lead_from_domain.ensures.grown in
    let g03 : HasGrown c.args.grounds.now c.args.layers.now c.void_from.new.layers = grown_more c.args.grounds.now c.args.layers.now c.lead_from_domain.new.layers c.void_from.new.layers g02 c.void_from.ensures.grown in
    g03

pub fill_from-requires : goal.fill_from-requires
fill_from-requires c =
    let g01 : HasGrown c.args.grounds.now c.args.layers.now c.include_role.new.layers = c.include_role.ensures.grown in
    let g02 : HasGrown c.args.grounds.now c.args.layers.now c.lead_from_domain.new.layers = grown_more c.args.grounds.now c.args.layers.now c.include_role.new.layers c.lead_from_domain.new.layers g01 c.lead_from_domain.ensures.grown in
    let g03 : HasGrown c.args.grounds.now c.args.layers.now c.void_from.new.layers = grown_more c.args.grounds.now c.args.layers.now c.lead_from_domain.new.layers c.void_from.new.layers g02 c.void_from.ensures.grown in
    at_grown c.args.grounds.now c.args.layers.now c.void_from.new.layers c.args.link.place (Link c.args.link.from c.args.link.role c.args.link.into) g03 c.requires

pub returns-in_err-fill_from-clause-grown : goal.returns-in_err-fill_from-clause-grown
returns-in_err-fill_from-clause-grown c =
    let g01 : HasGrown c.args.grounds.now c.args.layers.now c.include_role.new.layers = c.include_role.ensures.grown in
    let g02 : HasGrown c.args.grounds.now c.args.layers.now c.lead_from_domain.new.layers = grown_more c.args.grounds.now c.args.layers.now c.include_role.new.layers c.lead_from_domain.new.layers g01 c.lead_from_domain.ensures.grown in
    let g03 : HasGrown c.args.grounds.now c.args.layers.now c.void_from.new.layers = grown_more c.args.grounds.now c.args.layers.now c.lead_from_domain.new.layers c.void_from.new.layers g02 c.void_from.ensures.grown in
    let g04 : HasGrown c.args.grounds.now c.args.layers.now c.fill_from.new.layers = grown_more c.args.grounds.now c.args.layers.now c.void_from.new.layers c.fill_from.new.layers g03 c.fill_from.ensures.grown in
    g04

pub chain_from-requires : goal.chain_from-requires
chain_from-requires c =
    let g01 : HasGrown c.args.grounds.now c.args.layers.now c.include_role.new.layers = c.include_role.ensures.grown in
    let g02 : HasGrown c.args.grounds.now c.args.layers.now c.lead_from_domain.new.layers = grown_more c.args.grounds.now c.args.layers.now c.include_role.new.layers c.lead_from_domain.new.layers g01 c.lead_from_domain.ensures.grown in
    let g03 : HasGrown c.args.grounds.now c.args.layers.now c.void_from.new.layers = grown_more c.args.grounds.now c.args.layers.now c.lead_from_domain.new.layers c.void_from.new.layers g02 c.void_from.ensures.grown in
    let g04 : HasGrown c.args.grounds.now c.args.layers.now c.fill_from.new.layers = grown_more c.args.grounds.now c.args.layers.now c.void_from.new.layers c.fill_from.new.layers g03 c.fill_from.ensures.grown in
    at_grown c.args.grounds.now c.args.layers.now c.fill_from.new.layers c.args.link.place (Link c.args.link.from c.args.link.role c.args.link.into) g04 c.requires

pub returns-in_err-chain_from-clause-grown : goal.returns-in_err-chain_from-clause-grown
returns-in_err-chain_from-clause-grown c =
    let g01 : HasGrown c.args.grounds.now c.args.layers.now c.include_role.new.layers = c.include_role.ensures.grown in
    let g02 : HasGrown c.args.grounds.now c.args.layers.now c.lead_from_domain.new.layers = grown_more c.args.grounds.now c.args.layers.now c.include_role.new.layers c.lead_from_domain.new.layers g01 c.lead_from_domain.ensures.grown in
    let g03 : HasGrown c.args.grounds.now c.args.layers.now c.void_from.new.layers = grown_more c.args.grounds.now c.args.layers.now c.lead_from_domain.new.layers c.void_from.new.layers g02 c.void_from.ensures.grown in
    let g04 : HasGrown c.args.grounds.now c.args.layers.now c.fill_from.new.layers = grown_more c.args.grounds.now c.args.layers.now c.void_from.new.layers c.fill_from.new.layers g03 c.fill_from.ensures.grown in
    let g05 : HasGrown c.args.grounds.now c.args.layers.now c.chain_from.new.layers = grown_more c.args.grounds.now c.args.layers.now c.fill_from.new.layers c.chain_from.new.layers g04 c.chain_from.ensures.grown in
    g05

pub chain_into-requires : goal.chain_into-requires
chain_into-requires c =
    let g01 : HasGrown c.args.grounds.now c.args.layers.now c.include_role.new.layers = c.include_role.ensures.grown in
    let g02 : HasGrown c.args.grounds.now c.args.layers.now c.lead_from_domain.new.layers = grown_more c.args.grounds.now c.args.layers.now c.include_role.new.layers c.lead_from_domain.new.layers g01 c.lead_from_domain.ensures.grown in
    let g03 : HasGrown c.args.grounds.now c.args.layers.now c.void_from.new.layers = grown_more c.args.grounds.now c.args.layers.now c.lead_from_domain.new.layers c.void_from.new.layers g02 c.void_from.ensures.grown in
    let g04 : HasGrown c.args.grounds.now c.args.layers.now c.fill_from.new.layers = grown_more c.args.grounds.now c.args.layers.now c.void_from.new.layers c.fill_from.new.layers g03 c.fill_from.ensures.grown in
    let g05 : HasGrown c.args.grounds.now c.args.layers.now c.chain_from.new.layers = grown_more c.args.grounds.now c.args.layers.now c.fill_from.new.layers c.chain_from.new.layers g04 c.chain_from.ensures.grown in
    at_grown c.args.grounds.now c.args.layers.now c.chain_from.new.layers c.args.link.place (Link c.args.link.from c.args.link.role c.args.link.into) g05 c.requires

pub returns-clause-grown : goal.returns-clause-grown
returns-clause-grown c =
    let g01 : HasGrown c.args.grounds.now c.args.layers.now c.include_role.new.layers = c.include_role.ensures.grown in
    let g02 : HasGrown c.args.grounds.now c.args.layers.now c.lead_from_domain.new.layers = grown_more c.args.grounds.now c.args.layers.now c.include_role.new.layers c.lead_from_domain.new.layers g01 c.lead_from_domain.ensures.grown in
    let g03 : HasGrown c.args.grounds.now c.args.layers.now c.void_from.new.layers = grown_more c.args.grounds.now c.args.layers.now c.lead_from_domain.new.layers c.void_from.new.layers g02 c.void_from.ensures.grown in
    let g04 : HasGrown c.args.grounds.now c.args.layers.now c.fill_from.new.layers = grown_more c.args.grounds.now c.args.layers.now c.void_from.new.layers c.fill_from.new.layers g03 c.fill_from.ensures.grown in
    let g05 : HasGrown c.args.grounds.now c.args.layers.now c.chain_from.new.layers = grown_more c.args.grounds.now c.args.layers.now c.fill_from.new.layers c.chain_from.new.layers g04 c.chain_from.ensures.grown in
    let g06 : HasGrown c.args.grounds.now c.args.layers.now c.chain_into.new.layers = grown_more c.args.grounds.now c.args.layers.now c.chain_from.new.layers c.chain_into.new.layers g05 c.chain_into.ensures.grown in
    g06

pub returns-clause-answered : goal.returns-clause-answered
returns-clause-answered c =
    let g01 : HasGrown c.args.grounds.now c.args.layers.now c.include_role.new.layers = c.include_role.ensures.grown in
    let g02 : HasGrown c.args.grounds.now c.args.layers.now c.lead_from_domain.new.layers = grown_more c.args.grounds.now c.args.layers.now c.include_role.new.layers c.lead_from_domain.new.layers g01 c.lead_from_domain.ensures.grown in
    let g03 : HasGrown c.args.grounds.now c.args.layers.now c.void_from.new.layers = grown_more c.args.grounds.now c.args.layers.now c.lead_from_domain.new.layers c.void_from.new.layers g02 c.void_from.ensures.grown in
    let g04 : HasGrown c.args.grounds.now c.args.layers.now c.fill_from.new.layers = grown_more c.args.grounds.now c.args.layers.now c.void_from.new.layers c.fill_from.new.layers g03 c.fill_from.ensures.grown in
    let g05 : HasGrown c.args.grounds.now c.args.layers.now c.chain_from.new.layers = grown_more c.args.grounds.now c.args.layers.now c.fill_from.new.layers c.chain_from.new.layers g04 c.chain_from.ensures.grown in
    let g06 : HasGrown c.args.grounds.now c.args.layers.now c.chain_into.new.layers = grown_more c.args.grounds.now c.args.layers.now c.chain_from.new.layers c.chain_into.new.layers g05 c.chain_into.ensures.grown in
    let h5 : HasGrown c.args.grounds.now c.chain_from.new.layers c.chain_into.new.layers = c.chain_into.ensures.grown in
    let h4 : HasGrown c.args.grounds.now c.fill_from.new.layers c.chain_into.new.layers = grown_more c.args.grounds.now c.fill_from.new.layers c.chain_from.new.layers c.chain_into.new.layers c.chain_from.ensures.grown h5 in
    let h3 : HasGrown c.args.grounds.now c.void_from.new.layers c.chain_into.new.layers = grown_more c.args.grounds.now c.void_from.new.layers c.fill_from.new.layers c.chain_into.new.layers c.fill_from.ensures.grown h4 in
    let h2 : HasGrown c.args.grounds.now c.lead_from_domain.new.layers c.chain_into.new.layers = grown_more c.args.grounds.now c.lead_from_domain.new.layers c.void_from.new.layers c.chain_into.new.layers c.void_from.ensures.grown h3 in
    let h1 : HasGrown c.args.grounds.now c.include_role.new.layers c.chain_into.new.layers = grown_more c.args.grounds.now c.include_role.new.layers c.lead_from_domain.new.layers c.chain_into.new.layers c.lead_from_domain.ensures.grown h2 in
    let at1 : IsAt c.args.link.place (facts_in c.include_role.new.layers) (Link c.args.link.from c.args.link.role c.args.link.into) = at_grown c.args.grounds.now c.args.layers.now c.include_role.new.layers c.args.link.place (Link c.args.link.from c.args.link.role c.args.link.into) g01 c.requires in
    let at2 : IsAt c.args.link.place (facts_in c.lead_from_domain.new.layers) (Link c.args.link.from c.args.link.role c.args.link.into) = at_grown c.args.grounds.now c.args.layers.now c.lead_from_domain.new.layers c.args.link.place (Link c.args.link.from c.args.link.role c.args.link.into) g02 c.requires in
    let at3 : IsAt c.args.link.place (facts_in c.void_from.new.layers) (Link c.args.link.from c.args.link.role c.args.link.into) = at_grown c.args.grounds.now c.args.layers.now c.void_from.new.layers c.args.link.place (Link c.args.link.from c.args.link.role c.args.link.into) g03 c.requires in
    let at4 : IsAt c.args.link.place (facts_in c.fill_from.new.layers) (Link c.args.link.from c.args.link.role c.args.link.into) = at_grown c.args.grounds.now c.args.layers.now c.fill_from.new.layers c.args.link.place (Link c.args.link.from c.args.link.role c.args.link.into) g04 c.requires in
    let at5 : IsAt c.args.link.place (facts_in c.chain_from.new.layers) (Link c.args.link.from c.args.link.role c.args.link.into) = at_grown c.args.grounds.now c.args.layers.now c.chain_from.new.layers c.args.link.place (Link c.args.link.from c.args.link.role c.args.link.into) g05 c.requires in
    let at6 : IsAt c.args.link.place (facts_in c.chain_into.new.layers) (Link c.args.link.from c.args.link.role c.args.link.into) = at_grown c.args.grounds.now c.args.layers.now c.chain_into.new.layers c.args.link.place (Link c.args.link.from c.args.link.role c.args.link.into) g06 c.requires in
    on_ok_weaker c.chain_into.result
    (λ chain. link_answered (nodes_of c.args.grounds.now) (IsCounted c.args.grounds.now) c.args.link.place (facts_in c.chain_into.new.layers) c.args.link.from c.args.link.role c.args.link.into at6
    (first_grown c.args.grounds.now (IsCounted c.args.grounds.now) c.include_role.new.layers c.chain_into.new.layers c.args.link.place Rule.Role (Link c.args.link.from c.args.link.role c.args.link.into) h1 at1 (any_source c.args.grounds.now c.args.link.place (facts_in c.include_role.new.layers) Rule.Role c.in_ok-include_role.ensures.answered))
    (first_grown c.args.grounds.now (IsCounted c.args.grounds.now) c.lead_from_domain.new.layers c.chain_into.new.layers c.args.link.place Rule.Dom (Link c.args.link.from c.args.link.role c.args.link.into) h2 at2 (c.in_ok-lead_from_domain.ensures.answered))
    (first_grown c.args.grounds.now (IsCounted c.args.grounds.now) c.void_from.new.layers c.chain_into.new.layers c.args.link.place Rule.Void (Link c.args.link.from c.args.link.role c.args.link.into) h3 at3 (c.in_ok-void_from.ensures.answered))
    (first_grown c.args.grounds.now (IsCounted c.args.grounds.now) c.fill_from.new.layers c.chain_into.new.layers c.args.link.place Rule.Into (Link c.args.link.from c.args.link.role c.args.link.into) h4 at4 (c.in_ok-fill_from.ensures.answered))
    (first_grown c.args.grounds.now (IsCounted c.args.grounds.now) c.chain_from.new.layers c.chain_into.new.layers c.args.link.place Rule.Chain (Link c.args.link.from c.args.link.role c.args.link.into) h5 at5 (c.in_ok-chain_from.ensures.answered))
    chain)
    c.chain_into.ensures.answered
