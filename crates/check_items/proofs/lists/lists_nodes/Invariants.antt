use Rattle.std.proofs.Common.{◌≡◌, ◌<◌, ℕ}
use Rattle.std.specs.Prelude.{Some, slice_get}
use Rattle.concept_store.specs.declared.types.Node.{Node}
use Rattle.evidence_lines.specs.declared.types.NodeLine.{NodeLine}
use Rattle.valid_evidence.specs.Items.{case_loaded, line_of_node}
use Rattle.check_items.proofs.lists.lists_nodes.Given as goal

abbrev pub invariant-loop-n : goal.invariant-loop-n
invariant-loop-n l = (k : ℕ) (x : Node) (y : NodeLine) → k < l.n → slice_get (case_loaded l.loaded).store.nodes k ≡ Some x
    → slice_get l.lines k ≡ Some y → y ≡ line_of_node l.loaded.names.classes.names x
