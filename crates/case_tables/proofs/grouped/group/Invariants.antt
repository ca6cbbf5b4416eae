use Rattle.std.proofs.Common.{◌≡◌, ℕ, map, take}
use Rattle.case_tables.specs.Keyed.{at_key, of_key}
use Rattle.case_tables.proofs.grouped.group.Given as goal

abbrev pub invariant-loop-pair : goal.invariant-loop-pair
invariant-loop-pair g l =
    (key : ℕ) → at_key (map (λ list. list.items) l.lists.items) key ≡ of_key (take l.pair-index l.pairs) key
