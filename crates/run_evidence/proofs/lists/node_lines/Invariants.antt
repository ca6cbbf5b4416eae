use Rattle.std.proofs.Common.{◌≡◌, map, take}
use Rattle.valid_evidence.specs.Items.{line_of_node}
use Rattle.run_evidence.proofs.lists.node_lines.Given as goal

abbrev pub invariant-loop-n : goal.invariant-loop-n
invariant-loop-n l = l.lines.items ≡ map (line_of_node l.classes.names) (take l.n l.store.nodes)
