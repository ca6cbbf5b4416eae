use Rattle.std.proofs.Common.{rules, ◌∙◌}
use Rattle.commit_lock.proofs.SeatSteps.{splits, draws_by}
use Rattle.commit_lock.proofs.lock.CommitLock.split.Goals as goal

pub split_seat-token-requires : goal.split_seat-token-requires
split_seat-token-requires g c =
    (c.requires.lock.0, search rules, splits g.V.Grows.case g.V.Grows.entries g.V.Grows.worker _ _ _ c.requires.room)

pub fetch_add-found-requires : goal.fetch_add-found-requires
fetch_add-found-requires g c = (
  c.split_seat-token.ensures.3 ∙ c.requires.lock.0,
  search rules,
  draws_by g.V.Grows.case g.V.Grows.entries g.V.Grows.worker _ _ _ 2 0 _ c.args.seat.now.token.me.0 c.split_seat-token.ensures.4,
)
