use Rattle.std.proofs.Common.{◌∙◌, ℕ, subst}
use Rattle.concept_store.specs.declared.types.NodeAxiom.{NodeAxiom}
use Rattle.el_rules.specs.Saying.{MakesReflexive}
use Rattle.case_tables.specs.declared.types.Reflexive.{Reflexive}
use Rattle.case_tables.specs.Entries.{reflexive_said}
use Rattle.case_tables.specs.Tables.{said_in}
use Rattle.rule_steps.specs.Counted.{GroundsView}
use Rattle.rule_steps.specs.Inside.Entries.{AreEntriesOf}
use Rattle.rule_steps.proofs.SourceLaws.{counted_entries}
use Rattle.rule_steps.proofs.grounds.Grounds.reflexive.Goals as goal

pub returns : goal.returns
returns c =
    let view : GroundsView = record { case = c.self.inside.case.now; part = c.self.inside.part; ranks = c.self.inside.ranks.now } in
    let Says : ℕ × Reflexive → NodeAxiom → Type 0 = λ e said. MakesReflexive said e.0 in
    subst (λ (g : GroundsView). AreEntriesOf g (λ (e : ℕ × Reflexive). e.1.source) Says c.reflexive.result.now) c.self.view_is
    (counted_entries view (λ e. e.1.source) Says c.reflexive.result.now (said_in reflexive_said c.self.inside.case.now) c.self.invariant.1
    (c.reflexive.ensures ∙ c.self.invariant.0.reflexive)
    (λ e. c.domains_and_reflexive_roles_are_what_axioms_say.ensures.reflexive c.self.inside.case.now e.0 e.1))
