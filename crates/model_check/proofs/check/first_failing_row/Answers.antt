use Rattle.std.proofs.Common.{◌∙◌, ◌<◌, List, get_or, length, All, ap, subst, arith}
use Rattle.std.proofs.lemmas.List.{take_all}
use Rattle.std.proofs.lemmas.List.Elements.{All-get_or}
use Rattle.std.proofs.lemmas.Option.{slice_get-get_or}
use Rattle.el_logic.specs.declared.types.Axiom.{Axiom}
use Rattle.el_logic.specs.Meaning.{Holds}
use Rattle.fact_table.specs.declared.types.Source.{Source}
use Rattle.case_file.specs.Incoherence.{axioms_of_ranks}
use Rattle.case_tables.specs.Keyed.{numbered_from}
use Rattle.model_check.specs.Faults.{IsFirstFailing}
use Rattle.model_check.specs.declared.check.Origin.TheVariants as from
use Rattle.model_check.specs.Inside.Lists.{FindsFailing}
use Rattle.model_check.proofs.FailLaws.{row_fails, row_is, row_few}
use Rattle.model_check.proofs.check.first_failing_row.Goals as goal

pub first_failing-requires-clause-few : goal.first_failing-requires-clause-few
first_failing-requires-clause-few c =
    let case = c.args.case.now in
    let rank = get_or c.args.ranks.now c.loop-rank.rank-index 0 in
    let below = All-get_or (λ r. r < length case.order) c.args.ranks.now c.loop-rank.rank-index 0 c.loop-rank-test.true c.requires.ranks in
    let few = row_few case c.store-case.ensures.case rank below in
    let same = ap (λ (axioms : List Axiom). length axioms) (c.as_slice.ensures ∙ c.axioms_of.ensures) in
    omega (arith, few, same)

pub returns-in-Some : goal.returns-in-Some
returns-in-Some c =
    let case = c.args.case.now in
    let ranks = c.args.ranks.now in
    let index = c.loop-rank.rank-index in
    let rank = get_or ranks index 0 in
    let below = All-get_or (λ r. r < length case.order) ranks index 0 c.loop-rank-test.true c.requires.ranks in
    let axioms = c.as_slice.result.now in
    let fails = subst (FindsFailing c.args.lists.now.ordered (from.Row rank) axioms) c.in-Some.is c.in_ok-failing.ensures in
    row_fails c.args.lists.now.ordered case ranks index rank c.in-Some.source c.loop-rank.invariant (slice_get-get_or ranks index 0 c.loop-rank-test.true)
    (subst (λ (axioms : List Axiom). IsFirstFailing c.args.lists.now.ordered (numbered_from (Source.Row rank) 1 axioms) c.in-Some.source) (c.as_slice.ensures ∙ c.axioms_of.ensures ∙ row_is case rank below) fails)

pub returns : goal.returns
returns c =
    subst (λ ranks. All (Holds c.args.lists.now.ordered) (axioms_of_ranks c.args.case.now ranks)) (take_all c.loop-rank.rank-index c.args.ranks.now (omega (arith, c.loop-rank-test.false))) c.loop-rank.invariant
