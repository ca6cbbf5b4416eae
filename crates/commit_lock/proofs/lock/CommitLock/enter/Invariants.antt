use Rattle.std.proofs.Common.{◌≡◌}
use Rattle.commit_lock.proofs.lock.CommitLock.enter.Given as goal

-- no try changes the seat, but the one that takes the turn
abbrev pub invariant-loop : goal.invariant-loop
invariant-loop g l =
    (l.seat.token.table_id ≡ l.initial.seat.token.table_id) × (l.seat.token.me ≡ l.initial.seat.token.me)
