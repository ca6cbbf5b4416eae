use Rattle.std.proofs.Common.{◌∙◌, subst}
use Rattle.concept_store.specs.declared.types.NodeAxiom.{NodeAxiom}
use Rattle.case_tables.specs.Named.{IsOperandAt}
use Rattle.case_tables.specs.declared.types.Operand.{Operand}
use Rattle.case_tables.specs.Keyed.{of_key}
use Rattle.case_tables.specs.Entries.{operands_said}
use Rattle.case_tables.specs.Tables.{said_in}
use Rattle.rule_steps.specs.Counted.{GroundsView}
use Rattle.rule_steps.specs.Inside.Entries.{AreEntriesOf}
use Rattle.rule_steps.proofs.SourceLaws.{counted_entries}
use Rattle.rule_steps.proofs.grounds.Grounds.operands.Goals as goal

pub returns : goal.returns
returns c =
    let view : GroundsView = record { case = c.self.inside.case.now; part = c.self.inside.part; ranks = c.self.inside.ranks.now } in
    let Says : Operand → NodeAxiom → Type 0 = λ e said. IsOperandAt said e.position c.args.node in
    subst (λ (g : GroundsView). AreEntriesOf g (λ (e : Operand). e.source) Says c.operands.result.now) c.self.view_is
    (counted_entries view (λ e. e.source) Says c.operands.result.now (of_key (said_in operands_said c.self.inside.case.now) c.args.node) c.self.invariant.1
    (c.operands.ensures ∙ c.self.invariant.0.operands c.args.node) (c.operands_are_at_their_positions.ensures c.self.inside.case.now c.args.node))
