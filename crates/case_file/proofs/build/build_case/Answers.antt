use Rattle.std.proofs.Common.{◌≡◌, ◌∙◌, List, All, ap, sym, subst, arith}
use Rattle.el_logic.specs.declared.types.Axiom.{Axiom}
use Rattle.case_file.specs.Cases.{rows_over, IsCase}
use Rattle.case_file.specs.Inside.ShortRows.{IsShortRow}
use Rattle.case_file.proofs.InputLaws.{classes_fit, rows_short}
use Rattle.case_file.proofs.CaseLaws.{built_case, case_from}
use Rattle.case_file.proofs.build.build_case.Goals as goal

pub invariant_of-result : goal.invariant_of-result
invariant_of-result c =
    let fits = classes_fit c.args.input.classes c.args.input.left c.args.input.right c.in-Ok.store.nodes c.args.most_nodes (ap (λ s. s.nodes) c.in-Ok.ensures.store) c.in-Ok.ensures.nodes_fit (omega (arith, c.ranges.most_nodes)) in
    let short = rows_short c.args.input.classes c.args.input.roles c.args.input.rows fits c.requires.row_names in
    let P : List (List Axiom) → Type 0 = λ rows. All (All IsShortRow) rows → c.in_ok-over.over ≡ rows_over rows c.as_slice-2.result.now in
    let over_is : c.in_ok-over.over ≡ rows_over c.args.input.rows c.args.input.order = (subst P c.as_slice.ensures c.in_ok-over.ensures) short ∙ ap (rows_over c.args.input.rows) c.as_slice-2.ensures in
    subst IsCase (sym (case_from c.args.input c.in-Ok.store c.in_ok-over.over c.new.result c.in-Ok.ensures.store over_is c.new.ensures)) (built_case c.args.input c.requires)

pub returns-clause-case : goal.returns-clause-case
returns-clause-case c =
    let fits = classes_fit c.args.input.classes c.args.input.left c.args.input.right c.in-Ok.store.nodes c.args.most_nodes (ap (λ s. s.nodes) c.in-Ok.ensures.store) c.in-Ok.ensures.nodes_fit (omega (arith, c.ranges.most_nodes)) in
    let short = rows_short c.args.input.classes c.args.input.roles c.args.input.rows fits c.requires.row_names in
    let P : List (List Axiom) → Type 0 = λ rows. All (All IsShortRow) rows → c.in_ok-over.over ≡ rows_over rows c.as_slice-2.result.now in
    let over_is : c.in_ok-over.over ≡ rows_over c.args.input.rows c.args.input.order = (subst P c.as_slice.ensures c.in_ok-over.ensures) short ∙ ap (rows_over c.args.input.rows) c.as_slice-2.ensures in
    case_from c.args.input c.in-Ok.store c.in_ok-over.over c.new.result c.in-Ok.ensures.store over_is c.new.ensures
