use Rattle.std.proofs.Common.{◌≡◌, ℕ, [], map, length, take}
use Rattle.std.specs.Prelude.{slice_index_or}
use Rattle.closed_model.specs.Inside.Entries.{values_at}
use Rattle.closed_model.proofs.lists.grouped.Given as goal

abbrev pub invariant-loop-entry : goal.invariant-loop-entry
invariant-loop-entry g l = record {
  each : length l.lists.items ≡ l.keys;
  values : (key : ℕ) → slice_index_or (map (λ list. list.items) l.lists.items) key [] ≡ values_at (take l.entry-index l.entries) key;
}
