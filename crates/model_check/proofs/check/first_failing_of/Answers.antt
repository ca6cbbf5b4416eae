use Rattle.std.proofs.Common.{◌∙◌, ◌++◌, List, All, subst}
use Rattle.std.specs.Prelude.{flat_map}
use Rattle.std.proofs.lemmas.Result.{IfOk-weaker}
use Rattle.el_logic.specs.declared.types.Axiom.{Axiom}
use Rattle.el_logic.specs.Meaning.{Holds}
use Rattle.fact_table.specs.declared.types.Source.{Source}
use Rattle.case_tables.specs.Keyed.{numbered_from}
use Rattle.model_check.specs.declared.check.Origin.TheVariants as from
use Rattle.model_check.specs.Faults.{IsFirstFailing, row_ranked}
use Rattle.model_check.specs.Inside.Lists.{FindsFailing, FindsFailingOf, FindsFailingRow}
use Rattle.model_check.proofs.FailLaws.{stop, skip, of_rows}
use Rattle.model_check.proofs.check.first_failing_of.Goals as goal

pub returns-in-Some : goal.returns-in-Some
returns-in-Some c =
    let case = c.args.case.now in
    let i = c.args.lists.now.ordered in
    let source = c.in-Some.source in
    let left = numbered_from Source.Left 1 case.left in
    let right = numbered_from Source.Right 1 case.right in
    let others = flat_map (λ r. numbered_from (Source.Row r) 1 (row_ranked case r)) c.args.ranks.now in
    let fails = subst (FindsFailing i from.Left c.as_slice.result.now) c.in-Some.is c.in_ok-of_left.ensures in
    stop i (left ++ right) others source (stop i left right source
    (subst (λ (axioms : List Axiom). IsFirstFailing i (numbered_from Source.Left 1 axioms) source) (c.as_slice.ensures ∙ c.left.ensures) fails))

pub returns-in-Some-of_right : goal.returns-in-Some-of_right
returns-in-Some-of_right c =
    let case = c.args.case.now in
    let i = c.args.lists.now.ordered in
    let source = c.in-Some-of_right.source in
    let left = numbered_from Source.Left 1 case.left in
    let right = numbered_from Source.Right 1 case.right in
    let others = flat_map (λ r. numbered_from (Source.Row r) 1 (row_ranked case r)) c.args.ranks.now in
    let holds = subst (FindsFailing i from.Left c.as_slice.result.now) c.in-None.is c.in_ok-of_left.ensures in
    let fails = subst (FindsFailing i from.Right c.as_slice-2.result.now) c.in-Some-of_right.is c.in_ok-of_right.ensures in
    stop i (left ++ right) others source (skip i Source.Left 1 case.left right source
    (subst (All (Holds i)) (c.as_slice.ensures ∙ c.left.ensures) holds)
    (subst (λ (axioms : List Axiom). IsFirstFailing i (numbered_from Source.Right 1 axioms) source) (c.as_slice-2.ensures ∙ c.right.ensures) fails))

pub returns : goal.returns
returns c =
    let case = c.args.case.now in
    let i = c.args.lists.now.ordered in
    let ranks = c.args.ranks.now in
    let left = subst (FindsFailing i from.Left c.as_slice.result.now) c.in-None.is c.in_ok-of_left.ensures in
    let right = subst (FindsFailing i from.Right c.as_slice-2.result.now) c.in-None-of_right.is c.in_ok-of_right.ensures in
    IfOk-weaker c.first_failing_row.result (FindsFailingRow case i ranks) (FindsFailingOf case i ranks)
    (of_rows case i ranks (subst (All (Holds i)) (c.as_slice.ensures ∙ c.left.ensures) left) (subst (All (Holds i)) (c.as_slice-2.ensures ∙ c.right.ensures) right))
    c.first_failing_row.ensures
