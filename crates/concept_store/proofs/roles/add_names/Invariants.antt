use Rattle.std.proofs.Common.{◌≡◌, map}
use Rattle.std.specs.List.{range_with_len}
use Rattle.concept_store.specs.declared.types.RoleNode.TheVariants.{Named}
use Rattle.concept_store.proofs.roles.add_names.Given as goal

abbrev pub invariant-loop-name : goal.invariant-loop-name
invariant-loop-name l = l.roles.items ≡ map Named (range_with_len 0 l.name)
