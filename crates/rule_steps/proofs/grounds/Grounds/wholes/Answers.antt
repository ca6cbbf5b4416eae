use Rattle.std.proofs.Common.{◌∙◌, ◌↔◌, Contains, subst}
use Rattle.concept_store.specs.Nodes.{IsNode}
use Rattle.case_tables.specs.Named.{intersection_of}
use Rattle.case_tables.specs.declared.types.Whole.{Whole}
use Rattle.case_tables.specs.Keyed.{of_key}
use Rattle.case_tables.specs.Entries.{wholes_held}
use Rattle.case_tables.specs.Tables.{held_in}
use Rattle.rule_steps.specs.Counted.{GroundsView}
use Rattle.rule_steps.proofs.SourceLaws.{same_entries}
use Rattle.rule_steps.proofs.grounds.Grounds.wholes.Goals as goal

pub returns : goal.returns
returns c =
    let view : GroundsView = record { case = c.self.inside.case.now; part = c.self.inside.part; ranks = c.self.inside.ranks.now } in
    let Says : GroundsView → Whole → Type 0 = λ g e. IsNode g.case.store.nodes e.node (intersection_of c.args.node e) in
    subst (λ (g : GroundsView). (e : Whole) → Contains c.wholes.result.now e ↔ Says g e) c.self.view_is
    (same_entries (Says view) c.wholes.result.now (of_key (held_in wholes_held c.self.inside.case.now) c.args.node)
    (c.wholes.ensures ∙ c.self.invariant.0.wholes c.args.node) (c.wholes_are_intersections.ensures c.self.inside.case.now c.args.node))
