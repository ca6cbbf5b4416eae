use Rattle.commit_lock.proofs.Closing.{closed, closed_with}
use Rattle.commit_lock.proofs.lock.CommitLock.close.Goals as goal

pub unreachable-requires : goal.unreachable-requires
unreachable-requires g c =
    let end = closed g.V.Grows.case g.V.Grows.entries g.V.Grows.worker _ _ c.args.seat.token.me _ _ _
    c.requires.idle c.requires.whole c.close_with-closed.ensures.values.2 c.take-value.ensures.value in
    c.in_default.not-Some end.0 end.1

pub returns-clause-case : goal.returns-clause-case
returns-clause-case g c =
    let end = closed_with g.V.Grows.case g.V.Grows.entries g.V.Grows.worker _ _ c.args.seat.token.me _ _ _ c.in-Some.value
    c.requires.idle c.requires.whole c.close_with-closed.ensures.values.2 c.take-value.ensures.value c.in-Some.is in
    end.0

pub returns-clause-entries : goal.returns-clause-entries
returns-clause-entries g c =
    let end = closed_with g.V.Grows.case g.V.Grows.entries g.V.Grows.worker _ _ c.args.seat.token.me _ _ _ c.in-Some.value
    c.requires.idle c.requires.whole c.close_with-closed.ensures.values.2 c.take-value.ensures.value c.in-Some.is in
    end.1
