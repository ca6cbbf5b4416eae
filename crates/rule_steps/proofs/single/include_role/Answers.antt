use Rattle.std.proofs.Common.{get_or}
use Rattle.std.proofs.lemmas.List.Elements.{Contains-get_or}
use Rattle.std.proofs.lemmas.Option.{slice_get-get_or}
use Rattle.fact_table.specs.declared.types.Fact.TheVariants.{Link}
use Rattle.fact_table.specs.declared.types.Source.{Source}
use Rattle.case_tables.specs.declared.types.RoleInclusion.{RoleInclusion}
use Rattle.rule_steps.specs.Growing.{facts_in}
use Rattle.rule_steps.proofs.GrowthLaws.{at_grown, grown_more}
use Rattle.rule_steps.proofs.SingleLaws.{role_follows, role_answers, counted_more}
use Rattle.rule_steps.proofs.single.include_role.Goals as goal

pub add_counted-requires : goal.add_counted-requires
add_counted-requires c since counts =
    let d : RoleInclusion = record { into = 0; source = Source.Left 0 } in
    let here : RoleInclusion = get_or c.role_inclusions-entry-items.result.now c.loop-entry.entry-index d in
    role_follows c.args.grounds.now c.args.link.place c.loop-entry.layers c.args.link.from c.args.link.role c.args.link.into c.role_inclusions-entry-items.result.now here c.role_inclusions-entry-items.ensures
    (Contains-get_or c.role_inclusions-entry-items.result.now c.loop-entry.entry-index d c.loop-entry-test.true)
    (at_grown c.args.grounds.now c.args.layers.now c.loop-entry.layers c.args.link.place (Link c.args.link.from c.args.link.role c.args.link.into) c.loop-entry.invariant.grown c.requires) counts

pub loop-entry-preserved : goal.loop-entry-preserved
loop-entry-preserved c =
    let d : RoleInclusion = record { into = 0; source = Source.Left 0 } in
    let here : RoleInclusion = get_or c.role_inclusions-entry-items.result.now c.loop-entry.entry-index d in
    record {
      grown = grown_more c.args.grounds.now c.args.layers.now c.loop-entry.layers c.add_counted.new.layers c.loop-entry.invariant.grown c.add_counted.ensures.grown;
      each = counted_more c.args.grounds.now c.args.first (λ (e : RoleInclusion). e.source) (λ (e : RoleInclusion). Link c.args.link.from e.into c.args.link.into) c.loop-entry.layers c.add_counted.new.layers
          c.role_inclusions-entry-items.result.now c.loop-entry.entry-index here c.add_counted.ensures.grown c.loop-entry.invariant.each
          (slice_get-get_or c.role_inclusions-entry-items.result.now c.loop-entry.entry-index d c.loop-entry-test.true) c.in_ok-add_counted.ensures.there;
    }

pub returns-clause-answered : goal.returns-clause-answered
returns-clause-answered c =
    role_answers c.args.grounds.now c.args.link.place c.args.first (facts_in c.loop-entry.layers) c.args.link.from c.args.link.role c.args.link.into c.loop-entry.entry-index c.role_inclusions-entry-items.result.now c.role_inclusions-entry-items.ensures
    (at_grown c.args.grounds.now c.args.layers.now c.loop-entry.layers c.args.link.place (Link c.args.link.from c.args.link.role c.args.link.into) c.loop-entry.invariant.grown c.requires)
    c.loop-entry-test.false c.loop-entry.invariant.each
