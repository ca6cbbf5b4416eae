use Rattle.accuse_core.proofs.TrackLaws.{front_past_removed}
use Rattle.accuse_core.proofs.machine.Core.no.Goals as goal

pub settle-self-inside-requires : goal.settle-self-inside-requires
settle-self-inside-requires c =
    front_past_removed _ _ _ c.args.rank (rw c.self.view_is at c.self.invariant) c.requires (rw c.self.view_is at c.remove.ensures)
