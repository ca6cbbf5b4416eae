-- What is loaded has evidence.
use Rattle.std.proofs.Common.{◌≡◌, ◌⊎◌, inl, inr, ◌≤◌, ◌<◌, ℕ, List, [], length, map, get_or, sym, ap, subst, ◌∙◌, arith, All}
use Rattle.std.specs.Prelude.{slice_index, None}
use Rattle.std.specs.Arc.{arc_value}
use Rattle.std.proofs.lemmas.Bool.{cases_lt}
use Rattle.std.proofs.lemmas.List.{length-map, get_or_past, get_or_default}
use Rattle.std.proofs.lemmas.List.Elements.{All-map, All-get_or}
use Rattle.text_names.specs.declared.limits.Limits.{Limits}
use Rattle.el_logic.specs.declared.types.Axiom.{Axiom}
use Rattle.concept_store.specs.declared.types.NodeAxiom.{NodeAxiom}
use Rattle.ofn_axiom.specs.declared.types.Mode.{Mode}
use Rattle.ofn_axiom.specs.declared.types.Names.{Names}
use Rattle.predicate_axioms.specs.RowAxioms.{row_axioms}
use Rattle.rank_order.specs.Order.{IsRanking}
use Rattle.sssom_rows.specs.declared.table.Row.{Row}
use Rattle.sssom_rows.specs.declared.table.Table.{Table}
use Rattle.case_file.specs.Cases.{CaseView, IsCase, row_over, row_at, rows_over}
use Rattle.case_load.specs.Loads.{Inputs, IsLoaded, rows_in}
use Rattle.case_load.specs.declared.texts.Loaded.{Loaded}
use Rattle.evidence_lines.specs.Omitted.{omitted_before}
use Rattle.evidence_text.specs.EvidenceText.{InOrder, omitted_list}
use Rattle.loaded_names.specs.Iris.{HaveIris}
use Rattle.run_evidence.specs.Tellable.{IsEachOnce, IsTellable}

-- the laws of lower crates that this rests on
pub record Cited : Type 0 where
  pub once : (confidences rows : List ℕ) (one other : ℕ) → IsRanking confidences rows → one < length rows → other < length rows
      → slice_index rows one ≡ slice_index rows other → one ≡ other
  pub count : (confidences rows : List ℕ) → IsRanking confidences rows → length rows ≡ length confidences
  pub few : (classes roles : List (List ℕ)) (row : Row) → length (row_axioms classes roles row) ≤ 2

-- each of some lists is short, and so is the empty one in place of others
short_at : (rows : List (List Axiom)) (index : ℕ) → All (λ axioms. length axioms ≤ 2) rows → length (row_at rows index) ≤ 2
short_at rows index short = by (cases_lt index (length rows))
  where
    by : (index < length rows) ⊎ (length rows ≤ index) → length (row_at rows index) ≤ 2
    by (inl inside) = All-get_or (λ axioms. length axioms ≤ 2) rows index [] inside short
    by (inr past) = let e = ap length (get_or_past rows index [] past) in omega (arith, e)

-- so are the axioms of rows over nodes
short_over : (rows : List (List Axiom)) (order : List ℕ) → All (λ axioms. length axioms ≤ 2) rows → All (λ axioms. length axioms ≤ 2) (rows_over rows order)
short_over rows order short =
    All-map (λ (axioms : List NodeAxiom). length axioms ≤ 2) (λ index. map row_over (row_at rows index)) order
    (λ k d inside. let e = length-map (row_at rows (get_or order k d)) row_over in
    let small = short_at rows (get_or order k d) short in omega (arith, e, small))

-- an order in which each row has one rank
each_once : (case : CaseView) → IsCase case → ((one other : ℕ) → one < length case.order → other < length case.order → slice_index case.order one ≡ slice_index case.order other → one ≡ other)
    → IsEachOnce case.order
each_once case is once = record {
  once = once;
  each = λ index inside. let held = is.given.each_row index (omega (arith, is.given.ranks, inside)) in
      (held.0, held.1, get_or_default case.order held.0 0 index held.1 ∙ held.2);
  within = λ rank inside. let low = is.given.indexes rank 0 inside in omega (arith, is.given.ranks, low);
}

module _ (cited : Cited) (texts : Inputs) (mode : Mode) (limits : Limits) (loaded : Loaded) (is : IsLoaded texts mode limits loaded) where
  abbrev case : CaseView
  case = arc_value loaded.case

  short_rows : All (λ axioms. length axioms ≤ 2) (rows_in is.documents.names is.table)
  short_rows = All-map (λ (axioms : List Axiom). length axioms ≤ 2) (row_axioms is.documents.names.classes.names is.documents.names.roles.names) is.table.rows
      (λ k d inside. cited.few is.documents.names.classes.names is.documents.names.roles.names (get_or is.table.rows k d))

  pub tellable : HaveIris loaded.names → InOrder omitted_before None (omitted_list loaded.omitted) → IsCase case → IsTellable loaded
  tellable have in_order built = record {
    classes = ap (λ (c : CaseView). c.classes) is.made.case ∙ ap (λ (n : List (List ℕ)). length n) (sym (ap (λ (n : Names). n.classes.names) is.made.names));
    properties = ap (λ (c : CaseView). c.properties) is.made.case ∙ ap (λ (n : List (List ℕ)). length n) (sym (ap (λ (n : Names). n.roles.names) is.made.names));
    rows = ap (λ (c : CaseView). length c.order) is.made.case ∙ cited.count _ is.made.order is.made.ranking ∙ length-map is.table.rows (λ (row : Row). row.confidence)
        ∙ ap (λ (t : Table). length t.rows) (sym is.made.same_table);
    order = each_once case built (subst (λ (order : List ℕ). (one other : ℕ) → one < length order → other < length order → slice_index order one ≡ slice_index order other → one ≡ other)
        (sym (ap (λ (c : CaseView). c.order) is.made.case)) (λ one other. cited.once _ is.made.order one other is.made.ranking));
    few = subst (λ (c : CaseView). All (λ axioms. length axioms ≤ 2) c.over) (sym is.made.case) (short_over (rows_in is.documents.names is.table) is.made.order short_rows);
    iris = have;
    omitted = in_order;
  }
