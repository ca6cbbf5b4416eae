use Rattle.std.proofs.Common.{ℕ, get_or}
use Rattle.std.proofs.lemmas.List.Elements.{Contains-get_or}
use Rattle.std.proofs.lemmas.Option.{slice_get-get_or}
use Rattle.fact_table.specs.declared.types.Fact.TheVariants.{Link}
use Rattle.fact_table.specs.declared.types.Source.{Source}
use Rattle.rule_steps.specs.Growing.{facts_in}
use Rattle.rule_steps.proofs.GrowthLaws.{grown_more}
use Rattle.std.specs.Prelude.{None}
use Rattle.case_tables.specs.declared.types.Reflexive.{Reflexive}
use Rattle.rule_steps.proofs.SingleLaws.{counted_more}
use Rattle.rule_steps.proofs.BeginLaws.{reflexive_follows, reflexive_all}
use Rattle.rule_steps.proofs.steps.link_to_itself.Goals as goal

pub add_counted-requires : goal.add_counted-requires
add_counted-requires c since counts =
    let d : ℕ × Reflexive = (0, record { source = Source.Left 0 }) in
    let here : ℕ × Reflexive = get_or c.reflexive-entry-items.result.now c.loop-entry.entry-index d in
    reflexive_follows c.args.grounds.now c.loop-entry.layers c.args.node c.requires c.reflexive-entry-items.result.now here c.reflexive-entry-items.ensures (Contains-get_or c.reflexive-entry-items.result.now c.loop-entry.entry-index d c.loop-entry-test.true) counts

pub loop-entry-preserved : goal.loop-entry-preserved
loop-entry-preserved c =
    let d : ℕ × Reflexive = (0, record { source = Source.Left 0 }) in
    let here : ℕ × Reflexive = get_or c.reflexive-entry-items.result.now c.loop-entry.entry-index d in
    record {
      grown = grown_more c.args.grounds.now c.args.layers.now c.loop-entry.layers c.add_counted.new.layers c.loop-entry.invariant.grown c.add_counted.ensures.grown;
      each = counted_more c.args.grounds.now None (λ (e : ℕ × Reflexive). e.1.source) (λ (e : ℕ × Reflexive). Link c.args.node e.0 c.args.node) c.loop-entry.layers c.add_counted.new.layers
          c.reflexive-entry-items.result.now c.loop-entry.entry-index here c.add_counted.ensures.grown c.loop-entry.invariant.each
          (slice_get-get_or c.reflexive-entry-items.result.now c.loop-entry.entry-index d c.loop-entry-test.true) c.in_ok-add_counted.ensures.there;
    }

pub returns-clause-linked : goal.returns-clause-linked
returns-clause-linked c =
    reflexive_all c.args.grounds.now c.args.node c.loop-entry.entry-index (facts_in c.loop-entry.layers) c.reflexive-entry-items.result.now c.reflexive-entry-items.ensures c.loop-entry-test.false c.loop-entry.invariant.each
