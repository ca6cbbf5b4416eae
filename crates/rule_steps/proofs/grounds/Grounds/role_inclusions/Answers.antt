use Rattle.std.proofs.Common.{◌∙◌, subst}
use Rattle.concept_store.specs.declared.types.NodeAxiom.{NodeAxiom}
use Rattle.el_rules.specs.Saying.{IncludesRole}
use Rattle.case_tables.specs.declared.types.RoleInclusion.{RoleInclusion}
use Rattle.case_tables.specs.Keyed.{of_key}
use Rattle.case_tables.specs.Entries.{role_inclusions_said}
use Rattle.case_tables.specs.Tables.{said_in}
use Rattle.rule_steps.specs.Counted.{GroundsView}
use Rattle.rule_steps.specs.Inside.Entries.{AreEntriesOf}
use Rattle.rule_steps.proofs.SourceLaws.{counted_entries}
use Rattle.rule_steps.proofs.grounds.Grounds.role_inclusions.Goals as goal

pub returns : goal.returns
returns c =
    let view : GroundsView = record { case = c.self.inside.case.now; part = c.self.inside.part; ranks = c.self.inside.ranks.now } in
    let Says : RoleInclusion → NodeAxiom → Type 0 = λ e said. IncludesRole said c.args.role e.into in
    subst (λ (g : GroundsView). AreEntriesOf g (λ (e : RoleInclusion). e.source) Says c.role_inclusions.result.now) c.self.view_is
    (counted_entries view (λ e. e.source) Says c.role_inclusions.result.now (of_key (said_in role_inclusions_said c.self.inside.case.now) c.args.role) c.self.invariant.1
    (c.role_inclusions.ensures ∙ c.self.invariant.0.role_inclusions c.args.role) (c.role_inclusions_are_what_axioms_include.ensures c.self.inside.case.now c.args.role))
