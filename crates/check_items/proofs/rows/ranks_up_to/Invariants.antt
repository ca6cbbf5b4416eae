use Rattle.std.proofs.Common.{◌≡◌, take, nat_lt}
use Rattle.std.specs.List.{filter}
use Rattle.check_items.proofs.rows.ranks_up_to.Given as goal

abbrev pub invariant-loop-other : goal.invariant-loop-other
invariant-loop-other l = l.ranks.items ≡ filter (λ other. nat_lt other l.rank) (take l.other-index l.kept)
