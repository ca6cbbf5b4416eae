use Rattle.std.proofs.Common.{take}
use Rattle.std.specs.List.{AllPairs}
use Rattle.closed_model.specs.Models.{ComesBefore}
use Rattle.model_members.proofs.PropertyLaws.{LedBy}
use Rattle.model_members.proofs.properties.led.Given as goal

-- what a pair and then the properties so far lead to
abbrev pub invariant-loop-role : goal.invariant-loop-role
invariant-loop-role l = record {
  ascending : AllPairs ComesBefore l.all;
  led : LedBy l.fn.lists.ordered l.fn.first l.all (take l.role-index l.fn.chain);
}
