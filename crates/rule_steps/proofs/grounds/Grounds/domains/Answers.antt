use Rattle.std.proofs.Common.{◌∙◌, subst}
use Rattle.concept_store.specs.declared.types.NodeAxiom.{NodeAxiom}
use Rattle.el_rules.specs.Saying.{HasDomain}
use Rattle.case_tables.specs.declared.types.RoleDomain.{RoleDomain}
use Rattle.case_tables.specs.Keyed.{of_key}
use Rattle.case_tables.specs.Entries.{domains_said}
use Rattle.case_tables.specs.Tables.{said_in}
use Rattle.rule_steps.specs.Counted.{GroundsView}
use Rattle.rule_steps.specs.Inside.Entries.{AreEntriesOf}
use Rattle.rule_steps.proofs.SourceLaws.{counted_entries}
use Rattle.rule_steps.proofs.grounds.Grounds.domains.Goals as goal

pub returns : goal.returns
returns c =
    let view : GroundsView = record { case = c.self.inside.case.now; part = c.self.inside.part; ranks = c.self.inside.ranks.now } in
    let Says : RoleDomain → NodeAxiom → Type 0 = λ e said. HasDomain said c.args.role e.domain in
    subst (λ (g : GroundsView). AreEntriesOf g (λ (e : RoleDomain). e.source) Says c.domains.result.now) c.self.view_is
    (counted_entries view (λ e. e.source) Says c.domains.result.now (of_key (said_in domains_said c.self.inside.case.now) c.args.role) c.self.invariant.1
    (c.domains.ensures ∙ c.self.invariant.0.domains c.args.role) (c.domains_and_reflexive_roles_are_what_axioms_say.ensures.domains c.self.inside.case.now c.args.role))
