use Rattle.std.proofs.Common.{All, take}
use Rattle.std.specs.List.{AllPairs}
use Rattle.closed_model.specs.Models.{ComesBefore, HaveTheSame}
use Rattle.model_members.specs.Inside.Keyed.{AreMadeOf}
use Rattle.model_members.proofs.model.ordered_roles.Given as goal

-- the lists so far
abbrev pub invariant-loop-list : goal.invariant-loop-list
invariant-loop-list l = record {
  same : AreMadeOf HaveTheSame (take l.list-index l.lists) l.ordered.items;
  ascending : All (AllPairs ComesBefore) l.ordered.items;
}
