use Rattle.std.proofs.Common.{ap, sym}
use Rattle.commit_lock.proofs.Opening.{opens_with}
use Rattle.commit_lock.proofs.lock.CommitLock.new.Goals as goal

pub new-requires : goal.new-requires
new-requires g c =
    opens_with g.V.Grows.case g.V.Grows.entries g.V.Grows.worker _ _ _ c.args.value c.new-slots.ensures.items
    c.in_default.ensures.items c.requires (ap g.V.Grows.case (sym c.of-key.ensures))
