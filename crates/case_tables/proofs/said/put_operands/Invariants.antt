use Rattle.std.proofs.Common.{◌≡◌, ◌++◌, drop}
use Rattle.case_tables.specs.Entries.{operands_from}
use Rattle.case_tables.proofs.said.put_operands.Given as goal

abbrev pub invariant-loop-node : goal.invariant-loop-node
invariant-loop-node l =
    l.entries.items ++ operands_from l.source l.position (drop l.node-index l.nodes) ≡ l.initial.entries.items ++ operands_from l.source 0 l.nodes
