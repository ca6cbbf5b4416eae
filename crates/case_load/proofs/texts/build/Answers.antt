use Rattle.std.proofs.Common.{refl, sym, ap, subst, ◌∙◌, length, count_by, List}
use Rattle.std.specs.Prelude.{◌==◌}
use Rattle.el_logic.specs.declared.types.Axiom.{Axiom}
use Rattle.case_file.specs.Cases.{IsCaseInput, case_of}
use Rattle.case_load.proofs.InputLaws.{is_input, same_input, nodes_fit, roles_fit}
use Rattle.case_load.proofs.texts.build.Goals as goal

pub build_case-requires : goal.build_case-requires
build_case-requires c =
    let made = same_input c.args.documents c.args.table c.args.order c.args.rows c.len.result c.len-2.result c.requires.rows c.len.ensures.len c.len-2.ensures.len in
    subst IsCaseInput (sym made) (is_input (record {
      few = c.few_axioms_with_numbers_in_range.ensures.few;
      within = c.few_axioms_with_numbers_in_range.ensures.within;
      count = c.ranking_has_each_row_once.ensures.count;
      below = c.ranking_has_each_row_once.ensures.within;
    }) c.args.documents c.args.table c.args.order c.requires.over c.requires.few c.requires.order)

pub returns-clause-made : goal.returns-clause-made
returns-clause-made c =
    let made = same_input c.args.documents c.args.table c.args.order c.args.rows c.len.result c.len-2.result c.requires.rows c.len.ensures.len c.len-2.ensures.len in
    let same = c.in-Ok.ensures.case ∙ ap case_of made in
    record {
      nodes = nodes_fit c.args.documents c.args.table c.args.order c.in-Ok.case c.args.limits.now.nodes same c.in-Ok.ensures.nodes_fit;
      roles = roles_fit c.args.documents c.args.table c.args.order c.in-Ok.case c.args.limits.now.roles same c.in-Ok.ensures.roles_fit;
      order = c.args.order;
      ranking = c.requires.order;
      case = c.in-Ok-new.ensures.ok ∙ same;
      names = refl;
      same_table = refl;
      left_omitted = refl;
      right_omitted = refl;
      inert = c.inert_count-inert.ensures ∙ ap (λ (lists : List (List Axiom)). count_by (λ axioms. length axioms == 0) lists) (c.as_slice.ensures ∙ c.requires.rows);
    }
