use Rattle.std.proofs.Common.{◌≡◌, ◌∙◌, ◌<◌, List, length, refl, ap, sym, subst, arith, true≢false}
use Rattle.std.specs.Prelude.{Option, Some, slice_get}
use Rattle.std.proofs.lemmas.Option.{slice_get_read}
use Rattle.concept_store.specs.declared.types.Node.{Node}
use Rattle.concept_store.specs.Order.{AreInOrder}
use Rattle.concept_store.specs.Roles.{Numbered}
use Rattle.case_file.specs.Cases.{CaseView, IsCase}
use Rattle.valid_evidence.specs.Items.{case_loaded, line_of_node}
use Rattle.check_items.proofs.LineLaws.{all_lines, line_at, line_more}
use Rattle.check_items.proofs.lists.lists_nodes.Goals as goal

pub is_node_line-requires : goal.is_node_line-requires
is_node_line-requires c class is =
    let nodes_are : c.store-store.result.now.nodes ≡ (case_loaded c.args.loaded.now).store.nodes =
    ap (λ (s : Numbered). s.nodes) c.store-store.ensures.store ∙ ap (λ (v : CaseView). v.store.nodes) c.deref.ensures in
    let there : slice_get (case_loaded c.args.loaded.now).store.nodes c.loop-n.n ≡ Some c.node.result = ap (λ (xs : List Node). slice_get xs c.loop-n.n) (sym nodes_are) ∙ c.node.ensures in
    let case = case_loaded c.args.loaded.now in
    let made = subst IsCase c.deref.ensures c.store-store.ensures.case in
    let ordered = subst (λ (s : Numbered). AreInOrder case.classes case.properties s.nodes) (sym (ap (λ (v : CaseView). v.store) made.built))
    (c.nodes_stand_in_order.ensures case.classes case.properties case.left case.right made.given.left made.given.right) in
    let below = ordered.no_other_name c.loop-n.n class (there ∙ ap {B = Option Node} (λ (n : Node). Some n) is) in
    omega (arith, below, c.requires.classes)

pub returns-then-not-is_node_line : goal.returns-then-not-is_node_line
returns-then-not-is_node_line c =
    let nodes_are : c.store-store.result.now.nodes ≡ (case_loaded c.args.loaded.now).store.nodes =
    ap (λ (s : Numbered). s.nodes) c.store-store.ensures.store ∙ ap (λ (v : CaseView). v.store.nodes) c.deref.ensures in
    let there : slice_get (case_loaded c.args.loaded.now).store.nodes c.loop-n.n ≡ Some c.node.result = ap (λ (xs : List Node). slice_get xs c.loop-n.n) (sym nodes_are) ∙ c.node.ensures in
    let inside : c.loop-n.n < length c.args.lines.now = omega (arith, c.loop-n-test.true, c.loop-n.auto.n-end, c.if-lines-nodes.false, c.nodes.ensures, c.nodes-n-end.ensures) in
    let here = slice_get_read c.args.lines.now (length c.args.lines.now) c.loop-n.n c.index-lines-n.result refl inside c.index-lines-n.is in (
      (λ yes. absurd (true≢false (sym yes))),
      (λ same. absurd (true≢false (sym (c.is_node_line.ensures.1
          (line_at (line_of_node c.args.loaded.now.names.classes.names) (case_loaded c.args.loaded.now).store.nodes c.args.lines.now same c.loop-n.n c.node.result c.index-lines-n.result there here)) ∙ c.if-not-is_node_line.true))),
    )

pub loop-n-preserved : goal.loop-n-preserved
loop-n-preserved c =
    let nodes_are : c.store-store.result.now.nodes ≡ (case_loaded c.args.loaded.now).store.nodes =
    ap (λ (s : Numbered). s.nodes) c.store-store.ensures.store ∙ ap (λ (v : CaseView). v.store.nodes) c.deref.ensures in
    let there : slice_get (case_loaded c.args.loaded.now).store.nodes c.loop-n.n ≡ Some c.node.result = ap (λ (xs : List Node). slice_get xs c.loop-n.n) (sym nodes_are) ∙ c.node.ensures in
    let inside : c.loop-n.n < length c.args.lines.now = omega (arith, c.loop-n-test.true, c.loop-n.auto.n-end, c.if-lines-nodes.false, c.nodes.ensures, c.nodes-n-end.ensures) in
    let here = slice_get_read c.args.lines.now (length c.args.lines.now) c.loop-n.n c.index-lines-n.result refl inside c.index-lines-n.is in
    line_more (line_of_node c.args.loaded.now.names.classes.names) (case_loaded c.args.loaded.now).store.nodes c.args.lines.now c.loop-n.n c.node.result c.index-lines-n.result there here
    (c.is_node_line.ensures.0 c.if-not-is_node_line.false) c.loop-n.invariant

pub returns : goal.returns
returns c =
    let nodes_are : c.store-store.result.now.nodes ≡ (case_loaded c.args.loaded.now).store.nodes =
    ap (λ (s : Numbered). s.nodes) c.store-store.ensures.store ∙ ap (λ (v : CaseView). v.store.nodes) c.deref.ensures in
    let count = ap (λ (xs : List Node). length xs) nodes_are in (
      (λ _. all_lines (line_of_node c.args.loaded.now.names.classes.names) (case_loaded c.args.loaded.now).store.nodes c.args.lines.now
          (omega (arith, c.if-lines-nodes.false, c.nodes.ensures, count))
          (λ k x y below there here. c.loop-n.invariant k x y (omega (arith, below, count, c.loop-n-test.false, c.loop-n.auto.n-end, c.nodes-n-end.ensures)) there here)),
      (λ _. refl),
    )
