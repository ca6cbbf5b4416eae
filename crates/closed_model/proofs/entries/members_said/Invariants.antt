use Rattle.std.proofs.Common.{◌≡◌, take}
use Rattle.std.specs.List.{filter_map}
use Rattle.fact_table.specs.Lists.{facts_of}
use Rattle.closed_model.specs.Inside.Entries.{member_said}
use Rattle.closed_model.proofs.entries.members_said.Given as goal

abbrev pub invariant-loop-place : goal.invariant-loop-place
invariant-loop-place l = l.said.items ≡ filter_map (member_said l.of_node l.classes) (take l.place (facts_of l.base))
