use Rattle.std.proofs.Common.{rules, ◌∙◌, sym, subst}
use Rattle.commit_lock.specs.Inside.LockSteps.{Rests}
use Rattle.commit_lock.proofs.SeatSteps.{joins, settles_by}
use Rattle.commit_lock.proofs.lock.CommitLock.join.Goals as goal

pub join_seat-requires : goal.join_seat-requires
join_seat-requires g c =
    let (mine, its) = c.requires.idle in
    (c.requires.lock.0.0, c.requires.lock.1.0, its.2, search rules, joins g.V.Grows.case g.V.Grows.entries g.V.Grows.worker _ _ _ _ _ mine.0 its.0 its.1)

pub load-requires : goal.load-requires
load-requires g c =
    let rests = subst Rests (sym c.join_seat.ensures.2) c.requires.idle.0 in
    (c.join_seat.ensures.0 ∙ c.requires.lock.0.0, search rules, settles_by g.V.Grows.case g.V.Grows.entries g.V.Grows.worker _ _ _ 0 0 _ rests)
