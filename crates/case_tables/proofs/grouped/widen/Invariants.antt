use Rattle.std.proofs.Common.{◌≡◌, ◌+◌, ℕ, map, length}
use Rattle.case_tables.specs.Keyed.{at_key}
use Rattle.case_tables.proofs.grouped.widen.Given as goal

abbrev pub invariant-loop-added : goal.invariant-loop-added
invariant-loop-added g l =
    (length l.lists.items ≡ length l.initial.lists.items + l._added)
    × ((other : ℕ) → at_key (map (λ list. list.items) l.lists.items) other ≡ at_key (map (λ list. list.items) l.initial.lists.items) other)
