use Rattle.std.proofs.lemmas.Result.{on_ok_weaker}
use Rattle.fact_table.specs.declared.types.Fact.TheVariants.{Sub, Link}
use Rattle.rule_steps.specs.Counted.{nodes_of}
use Rattle.rule_steps.specs.Growing.{facts_in}
use Rattle.rule_steps.proofs.GrowthLaws.{at_grown}
use Rattle.std.specs.Prelude.{Some}
use Rattle.rule_steps.specs.Counted.{IsCountedSince}
use Rattle.rule_steps.proofs.AnswerLaws.{sub_gives_no_role, link_gives_no_sub}
use Rattle.rule_steps.proofs.steps.answer_rows.Goals as goal

pub returns-in-Sub-clause-answered : goal.returns-in-Sub-clause-answered
returns-in-Sub-clause-answered c =
    on_ok_weaker c.include.result
    (λ incl. (
      incl,
      sub_gives_no_role (nodes_of c.args.grounds.now) (IsCountedSince (Some c.args.first) c.args.grounds.now) c.args.place (facts_in c.include.new.layers) c.in-Sub.low c.in-Sub.high
          (at_grown c.args.grounds.now c.args.layers.now c.include.new.layers c.args.place (Sub c.in-Sub.low c.in-Sub.high) c.include.ensures.grown c.in-Sub.ensures),
    ))
    c.include.ensures.answered

pub returns-in-Link-clause-answered : goal.returns-in-Link-clause-answered
returns-in-Link-clause-answered c =
    on_ok_weaker c.include_role.result
    (λ role. (
      link_gives_no_sub (nodes_of c.args.grounds.now) (IsCountedSince (Some c.args.first) c.args.grounds.now) c.args.place (facts_in c.include_role.new.layers) c.in-Link.from c.in-Link.role c.in-Link.into
          (at_grown c.args.grounds.now c.args.layers.now c.include_role.new.layers c.args.place (Link c.in-Link.from c.in-Link.role c.in-Link.into) c.include_role.ensures.grown c.in-Link.ensures),
      role,
    ))
    c.include_role.ensures.answered
