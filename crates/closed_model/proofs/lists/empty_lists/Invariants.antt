use Rattle.std.proofs.Common.{◌≡◌, ℕ, [], map, length}
use Rattle.std.specs.Prelude.{slice_index_or}
use Rattle.closed_model.proofs.lists.empty_lists.Given as goal

abbrev pub invariant-loop-key : goal.invariant-loop-key
invariant-loop-key g l = record {
  each : length l.lists.items ≡ l._key;
  empty : (key : ℕ) → slice_index_or (map (λ list. list.items) l.lists.items) key [] ≡ [];
}
