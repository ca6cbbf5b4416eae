use Rattle.std.proofs.Common.{get_or}
use Rattle.std.specs.Prelude.{None}
use Rattle.std.proofs.lemmas.List.Elements.{Contains-get_or}
use Rattle.std.proofs.lemmas.Option.{slice_get-get_or}
use Rattle.fact_table.specs.declared.types.Fact.TheVariants.{Sub, Link}
use Rattle.fact_table.specs.declared.types.Source.{Source}
use Rattle.case_tables.specs.declared.types.RoleDomain.{RoleDomain}
use Rattle.rule_steps.specs.Growing.{facts_in}
use Rattle.rule_steps.proofs.GrowthLaws.{at_grown, grown_more}
use Rattle.rule_steps.proofs.SingleLaws.{domain_follows, domain_answers, counted_more}
use Rattle.rule_steps.proofs.single.lead_from_domain.Goals as goal

pub add_counted-requires : goal.add_counted-requires
add_counted-requires c since counts =
    let d : RoleDomain = record { domain = 0; source = Source.Left 0 } in
    let here : RoleDomain = get_or c.domains-entry-items.result.now c.loop-entry.entry-index d in
    domain_follows c.args.grounds.now c.args.link.place c.loop-entry.layers c.args.link.from c.args.link.role c.args.link.into c.domains-entry-items.result.now here c.domains-entry-items.ensures
    (Contains-get_or c.domains-entry-items.result.now c.loop-entry.entry-index d c.loop-entry-test.true)
    (at_grown c.args.grounds.now c.args.layers.now c.loop-entry.layers c.args.link.place (Link c.args.link.from c.args.link.role c.args.link.into) c.loop-entry.invariant.grown c.requires) counts

pub loop-entry-preserved : goal.loop-entry-preserved
loop-entry-preserved c =
    let d : RoleDomain = record { domain = 0; source = Source.Left 0 } in
    let here : RoleDomain = get_or c.domains-entry-items.result.now c.loop-entry.entry-index d in
    record {
      grown = grown_more c.args.grounds.now c.args.layers.now c.loop-entry.layers c.add_counted.new.layers c.loop-entry.invariant.grown c.add_counted.ensures.grown;
      each = counted_more c.args.grounds.now None (λ (e : RoleDomain). e.source) (λ (e : RoleDomain). Sub c.args.link.from e.domain) c.loop-entry.layers c.add_counted.new.layers
          c.domains-entry-items.result.now c.loop-entry.entry-index here c.add_counted.ensures.grown c.loop-entry.invariant.each
          (slice_get-get_or c.domains-entry-items.result.now c.loop-entry.entry-index d c.loop-entry-test.true) c.in_ok-add_counted.ensures.there;
    }

pub returns-clause-answered : goal.returns-clause-answered
returns-clause-answered c =
    domain_answers c.args.grounds.now c.args.link.place None (facts_in c.loop-entry.layers) c.args.link.from c.args.link.role c.args.link.into c.loop-entry.entry-index c.domains-entry-items.result.now (λ source. tt) c.domains-entry-items.ensures
    (at_grown c.args.grounds.now c.args.layers.now c.loop-entry.layers c.args.link.place (Link c.args.link.from c.args.link.role c.args.link.into) c.loop-entry.invariant.grown c.requires)
    c.loop-entry-test.false c.loop-entry.invariant.each
