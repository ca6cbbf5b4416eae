use Rattle.std.proofs.Common.{◌≡◌, ◌≤◌, ◌++◌, length, map}
use Rattle.std.specs.List.{range_with_len}
use Rattle.concept_store.specs.declared.types.RoleNode.TheVariants.{Part}
use Rattle.concept_store.proofs.roles.add_parts.Given as goal

abbrev pub invariant-loop-k : goal.invariant-loop-k
invariant-loop-k l = record {
  roles : l.roles.items ≡ l.initial.roles.items ++ map (Part l.side l.number) (range_with_len 2 l.k);
  room : length l.roles.items ≤ l.most;
}
