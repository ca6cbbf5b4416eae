use Rattle.std.proofs.Common.{◌≡◌, ℕ, ◌+◌, ◌<◌, ◌≤◌, length}
use Rattle.commit_book.specs.Inside.Holdings.{held_at, without_note}
use Rattle.commit_book.proofs.held.drop_notes.Given as goal

-- the contract, for the ranks so far
abbrev pub invariant-loop-ahead : goal.invariant-loop-ahead
invariant-loop-ahead l = record {
  count : length l.held.items ≡ length l.initial.held.items;
  within : (rank : ℕ) → l.first ≤ rank → rank < l.first + l.ahead
      → held_at l.held.items rank ≡ without_note (held_at l.initial.held.items rank);
  before : (rank : ℕ) → rank < l.first → held_at l.held.items rank ≡ held_at l.initial.held.items rank;
  past : (rank : ℕ) → l.first + l.ahead ≤ rank
      → held_at l.held.items rank ≡ held_at l.initial.held.items rank;
}
