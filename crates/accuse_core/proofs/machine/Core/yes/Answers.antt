use Rattle.std.proofs.Common.{arith, ◌≤◌, ◌+◌, ◌∙◌}
use Rattle.accuse_core.specs.Marks.{front_of}
use Rattle.accuse_core.proofs.TrackLaws.{front_past_kept}
use Rattle.accuse_core.proofs.machine.Core.yes.Goals as goal

pub settle-self-inside-requires : goal.settle-self-inside-requires
settle-self-inside-requires c =
    let further : c.args.rank + 1 ≤ front_of c.keep_front.new.self =
    front_past_kept _ _ _ (c.if-rank-self.true ∙ rw c.self.view_is at c.self.invariant) c.requires (rw c.self.view_is at c.keep_front.ensures) in
    omega arith
