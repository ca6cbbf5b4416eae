use Rattle.std.proofs.Common.{◌≡◌, get_or, Contains, refl}
use Rattle.std.proofs.lemmas.List.Elements.{Contains-get_or}
use Rattle.std.proofs.lemmas.Option.{slice_get-get_or}
use Rattle.fact_table.specs.declared.types.Source.{Source}
use Rattle.rule_steps.specs.Counted.{IsCounting}
use Rattle.rule_steps.proofs.LoopLaws.{each_more}
use Rattle.std.proofs.Common.{true, false}
use Rattle.case_tables.specs.declared.types.Operand.{Operand}
use Rattle.rule_steps.specs.Inside.Steps.{IsApart}
use Rattle.rule_steps.proofs.DisjointLaws.{separates_by, separates_not}
use Rattle.rule_steps.proofs.disjoint.separator.Goals as goal

pub loop-operand-preserved-then-not-is_apart_from : goal.loop-operand-preserved-then-not-is_apart_from
loop-operand-preserved-then-not-is_apart_from c =
    let d : Operand = record { position = 0; source = Source.Left 0 } in
    each_more c.operands-operand-items.result.now c.loop-operand.operand-index (λ (e : Operand). (there : Operand) → Contains c.operands-others.result.now there → IsApart e there → IsCounting c.args.grounds.now e.source → ⊥) (λ (e : Operand). (there : Operand) → Contains c.operands-others.result.now there → IsApart e there → IsCounting c.args.grounds.now e.source → ⊥) (get_or c.operands-operand-items.result.now c.loop-operand.operand-index d) (λ e not. not) c.loop-operand.invariant (slice_get-get_or c.operands-operand-items.result.now c.loop-operand.operand-index d c.loop-operand-test.true)
    (λ there held apart counts. let no : false ≡ true = c.if-not-is_apart_from.ensures.1 (there, held, apart) in cc)

pub returns-then-counts : goal.returns-then-counts
returns-then-counts c =
    let d : Operand = record { position = 0; source = Source.Left 0 } in
    let apart = c.if-not-is_apart_from.ensures.0 refl in
    separates_by c.args.grounds.now c.args.one c.args.other (get_or c.operands-operand-items.result.now c.loop-operand.operand-index d) apart.0 c.operands-operand-items.result.now c.operands-others.result.now c.operands-operand-items.ensures c.operands-others.ensures
    c.operands_at_two_positions_are_separated.ensures (Contains-get_or c.operands-operand-items.result.now c.loop-operand.operand-index d c.loop-operand-test.true) apart.1 apart.2 (c.if-counts.ensures.0 refl)

pub loop-operand-preserved : goal.loop-operand-preserved
loop-operand-preserved c =
    let d : Operand = record { position = 0; source = Source.Left 0 } in
    each_more c.operands-operand-items.result.now c.loop-operand.operand-index (λ (e : Operand). (there : Operand) → Contains c.operands-others.result.now there → IsApart e there → IsCounting c.args.grounds.now e.source → ⊥) (λ (e : Operand). (there : Operand) → Contains c.operands-others.result.now there → IsApart e there → IsCounting c.args.grounds.now e.source → ⊥) (get_or c.operands-operand-items.result.now c.loop-operand.operand-index d) (λ e not. not) c.loop-operand.invariant (slice_get-get_or c.operands-operand-items.result.now c.loop-operand.operand-index d c.loop-operand-test.true)
    (λ there held apart counts. let no : false ≡ true = c.if-counts.ensures.1 counts in cc)

pub returns : goal.returns
returns c =
    separates_not c.args.grounds.now c.args.one c.args.other c.loop-operand.operand-index c.operands-operand-items.result.now c.operands-others.result.now c.operands-operand-items.ensures c.operands-others.ensures
    c.operands_at_two_positions_are_separated.ensures c.loop-operand-test.false c.loop-operand.invariant
