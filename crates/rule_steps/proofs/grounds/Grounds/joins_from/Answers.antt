use Rattle.std.proofs.Common.{◌≡◌, ◌∙◌, subst}
use Rattle.concept_store.specs.declared.types.NodeAxiom.{NodeAxiom}
use Rattle.el_rules.specs.Saying.{Joins}
use Rattle.case_tables.specs.declared.types.Join.{Join}
use Rattle.case_tables.specs.Keyed.{of_key}
use Rattle.case_tables.specs.Entries.{joins_said}
use Rattle.case_tables.specs.Tables.{said_in}
use Rattle.rule_steps.specs.Counted.{GroundsView}
use Rattle.rule_steps.specs.Inside.Entries.{AreEntriesOf}
use Rattle.rule_steps.proofs.SourceLaws.{counted_entries}
use Rattle.rule_steps.proofs.grounds.Grounds.joins_from.Goals as goal

pub returns : goal.returns
returns c =
    let view : GroundsView = record { case = c.self.inside.case.now; part = c.self.inside.part; ranks = c.self.inside.ranks.now } in
    let Says : Join → NodeAxiom → Type 0 = λ e said. (c.args.role ≡ e.first) × Joins said e.first e.second e.into in
    subst (λ (g : GroundsView). AreEntriesOf g (λ (e : Join). e.source) Says c.joins_from.result.now) c.self.view_is
    (counted_entries view (λ e. e.source) Says c.joins_from.result.now (of_key (said_in joins_said c.self.inside.case.now) c.args.role) c.self.invariant.1
    (c.joins_from.ensures ∙ c.self.invariant.0.joins_from c.args.role) (c.joins_are_what_axioms_join.ensures.first c.self.inside.case.now c.args.role))
