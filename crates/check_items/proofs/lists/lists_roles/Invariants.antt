use Rattle.std.proofs.Common.{◌≡◌, ◌<◌, ℕ}
use Rattle.std.specs.Prelude.{Some, slice_get}
use Rattle.concept_store.specs.declared.types.RoleNode.{RoleNode}
use Rattle.evidence_lines.specs.declared.types.RoleLine.{RoleLine}
use Rattle.valid_evidence.specs.Items.{case_loaded, line_of_role}
use Rattle.check_items.proofs.lists.lists_roles.Given as goal

abbrev pub invariant-loop-n : goal.invariant-loop-n
invariant-loop-n l = (k : ℕ) (x : RoleNode) (y : RoleLine) → k < l.n → slice_get (case_loaded l.loaded).store.roles k ≡ Some x
    → slice_get l.lines k ≡ Some y → y ≡ line_of_role l.loaded.names.roles.names x
