use Rattle.std.proofs.Common.{◌≡◌, ◌∙◌, ◌↔◌, Contains, subst}
use Rattle.concept_store.specs.Nodes.{IsNode}
use Rattle.concept_store.specs.declared.types.Node.TheVariants.{Exists}
use Rattle.case_tables.specs.declared.types.Restriction.{Restriction}
use Rattle.case_tables.specs.Keyed.{of_key}
use Rattle.case_tables.specs.Entries.{restrictions_held}
use Rattle.case_tables.specs.Tables.{held_in}
use Rattle.rule_steps.specs.Counted.{GroundsView}
use Rattle.rule_steps.proofs.SourceLaws.{same_entries}
use Rattle.rule_steps.proofs.grounds.Grounds.restrictions_into.Goals as goal

pub returns : goal.returns
returns c =
    let view : GroundsView = record { case = c.self.inside.case.now; part = c.self.inside.part; ranks = c.self.inside.ranks.now } in
    let Says : GroundsView → Restriction → Type 0 = λ g e. (c.args.filler ≡ e.filler) × IsNode g.case.store.nodes e.node (Exists e.role e.filler) in
    subst (λ (g : GroundsView). (e : Restriction) → Contains c.restrictions_into.result.now e ↔ Says g e) c.self.view_is
    (same_entries (Says view) c.restrictions_into.result.now (of_key (held_in restrictions_held c.self.inside.case.now) c.args.filler)
    (c.restrictions_into.ensures ∙ c.self.invariant.0.restrictions_into c.args.filler) (c.restrictions_are_existentials.ensures.into c.self.inside.case.now c.args.filler))
