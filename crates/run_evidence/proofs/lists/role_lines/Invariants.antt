use Rattle.std.proofs.Common.{◌≡◌, map, take}
use Rattle.valid_evidence.specs.Items.{line_of_role}
use Rattle.run_evidence.proofs.lists.role_lines.Given as goal

abbrev pub invariant-loop-r : goal.invariant-loop-r
invariant-loop-r l = l.lines.items ≡ map (line_of_role l.properties.names) (take l.r l.store.roles)
